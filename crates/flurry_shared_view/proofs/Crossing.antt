-- A view of a shared map may cross threads as its keys, values, hasher and allocator may, where its runtime may be shared.
use denote.Ref.{NamedLft}
use denote.RattleType.{RattleType}
use denote.Param.Send.{IsSend, IsSync, Frees, sendable}
use Rattle.std.specs.declared.alloc.Allocator.{Ghosts}
use Rattle.std.specs.declared.cmp.Ord as ord
use Rattle.std.specs.declared.cmp.PartialEq as eq
use Rattle.std.specs.declared.cmp.PartialOrd as partial
use Rattle.flurry_shared_locks.proofs.Crossing.{locks_sync}
use Rattle.flurry_shared_view.specs.contracts.map_ref.HashMapRef as HashMapRef
use Rattle.flurry_base.specs.declared.hash.KeyHasher as hasher

module _ (m : NamedLft) (R K V S A : RattleType) (g : Ghosts A.Denot) (sk : IsSend K) (yk : IsSync K) (sv : IsSend V) (yv : IsSync V) (sa : IsSend A) (ya : IsSync A) (f : Frees g g.dealloc_token)
    (o : ord.Ghosts K.Denot) (e : eq.Ghosts K.Denot) (p : partial.Ghosts K.Denot) (h : hasher.Ghosts S.Denot K.Denot) where
  pub view_send : IsSync R → IsSync S → IsSend (HashMapRef.the_row m R K V S A o e p h g)
  view_send yr ys = let l = locks_sync K V A g sk yk sv yv sa ya f o e p in search sendable depth 60

  pub view_sync : IsSync R → IsSync S → IsSync (HashMapRef.the_row m R K V S A o e p h g)
  view_sync yr ys = let l = locks_sync K V A g sk yk sv yv sa ya f o e p in search sendable depth 60
