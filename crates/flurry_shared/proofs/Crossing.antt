-- A shared map may cross threads as its keys, values, hasher and allocator may.
use denote.RattleType.{RattleType}
use denote.Param.Send.{IsSend, IsSync, Frees, sendable}
use Rattle.std.specs.declared.alloc.Allocator.{Ghosts}
use Rattle.std.specs.declared.cmp.Ord as ord
use Rattle.std.specs.declared.cmp.PartialEq as eq
use Rattle.std.specs.declared.cmp.PartialOrd as partial
use Rattle.flurry_shared_locks.proofs.Crossing.{locks_send, locks_sync}
use Rattle.flurry_shared.specs.contracts.map.HashMap as HashMap
use Rattle.flurry_base.specs.declared.hash.KeyHasher as hasher

module _ (K V S A : RattleType) (g : Ghosts A.Denot) (sk : IsSend K) (yk : IsSync K) (sv : IsSend V) (yv : IsSync V) (sa : IsSend A) (ya : IsSync A) (f : Frees g g.dealloc_token)
    (o : ord.Ghosts K.Denot) (e : eq.Ghosts K.Denot) (p : partial.Ghosts K.Denot) (h : hasher.Ghosts S.Denot K.Denot) where
  pub map_send : IsSend S → IsSend (HashMap.the_row K V S A o e p h g)
  map_send ss = let l = locks_send K V A g sk yk sv yv sa ya f o e p in search sendable depth 60

  pub map_sync : IsSync S → IsSync (HashMap.the_row K V S A o e p h g)
  map_sync ys = let l = locks_sync K V A g sk yk sv yv sa ya f o e p in search sendable depth 60
