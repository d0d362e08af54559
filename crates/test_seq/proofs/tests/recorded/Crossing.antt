-- What the threads of these tests share and own may cross threads.
use denote.Plain.{UInt}
use denote.RattleType.{RattleType}
use denote.Param.Send.{IsSend, IsSync, Frees, sendable}
use mir.Syntax.{w64}
use Rattle.std.proofs.Common.{ℕ}
use Rattle.std.specs.declared.alloc.Allocator.{Ghosts}
use Rattle.std.specs.contracts.prelude.U64Ord.TheImpl as ord
use Rattle.std.specs.contracts.prelude.U64PartialEq.TheImpl as eq
use Rattle.std.specs.contracts.prelude.U64PartialOrd.TheImpl as partial
use Rattle.flurry_base.specs.declared.hash.KeyHasher as hasher
use Rattle.flurry_seq_recorded.proofs.Crossing.{recorded_sync, share_send}
use Rattle.flurry_seq_recorded.specs.contracts.recorded.Recorded as Recorded
use Rattle.flurry_seq_recorded.specs.contracts.share.Share as Share

module _ (S A : RattleType) (h : hasher.Ghosts S.Denot ℕ) (g : Ghosts A.Denot) (sa : IsSend A) (ya : IsSync A) (f : Frees g g.dealloc_token) where
  -- a recorded map of numbers
  pub numbers_sync : IsSend S → IsSync (Recorded.the_row (UInt w64) (UInt w64) S A ord.ghosts eq.ghosts partial.ghosts h g)
  numbers_sync ss = search (recorded_sync, sendable) depth 30

module _ (A : RattleType) (g : Ghosts A.Denot) (sa : IsSend A) (f : Frees g g.dealloc_token) where
  -- a share of one
  pub number_share_send : IsSend (Share.the_row (UInt w64) (UInt w64) A g)
  number_share_send = search (share_send, sendable) depth 30
