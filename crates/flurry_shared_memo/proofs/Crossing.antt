-- A shared memo may cross threads as its keys, values, hasher and allocator may.
use denote.RattleType.{RattleType}
use denote.Param.Send.{IsSend, IsSync, Frees, sendable}
use Rattle.std.specs.declared.alloc.Allocator.{Ghosts}
use Rattle.std.specs.declared.cmp.Ord as ord
use Rattle.std.specs.declared.cmp.PartialEq as eq
use Rattle.std.specs.declared.cmp.PartialOrd as partial
use Rattle.flurry_shared.proofs.Crossing.{map_send, map_sync}
use Rattle.flurry_shared_memo.specs.contracts.memo.Memo as Memo
use Rattle.flurry_base.specs.declared.hash.KeyHasher as hasher

module _ (K V S A : RattleType) (g : Ghosts A.Denot) (sk : IsSend K) (yk : IsSync K) (sv : IsSend V) (yv : IsSync V) (sa : IsSend A) (ya : IsSync A) (f : Frees g g.dealloc_token)
    (o : ord.Ghosts K.Denot) (e : eq.Ghosts K.Denot) (p : partial.Ghosts K.Denot) (h : hasher.Ghosts S.Denot K.Denot) where
  pub memo_send : IsSend S → IsSend (Memo.the_row K V S A o e p h g)
  memo_send ss = let l = map_send K V S A g sk yk sv yv sa ya f o e p h in search sendable depth 60

  pub memo_sync : IsSync S → IsSync (Memo.the_row K V S A o e p h g)
  memo_sync ys = let l = map_sync K V S A g sk yk sv yv sa ya f o e p h in search sendable depth 60
