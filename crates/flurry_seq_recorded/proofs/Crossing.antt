-- A recorded map and its shares may cross threads as their keys, values, hasher and allocator may.
use denote.RattleType.{RattleType}
use denote.Param.Send.{IsSend, IsSync, Frees, sendable}
use Rattle.std.proofs.CrossingOver.{crosses}
use Rattle.std.proofs.sync.Mutex.TheSendSync as mutex
use Rattle.std.specs.declared.alloc.Allocator.{Ghosts}
use Rattle.std.specs.declared.cmp.Ord as ord
use Rattle.std.specs.declared.cmp.PartialEq as eq
use Rattle.std.specs.declared.cmp.PartialOrd as partial
use Rattle.flurry_base.specs.declared.hash.KeyHasher as hasher
use Rattle.flurry_seq_recorded.proofs.kept.KeptEntry.TheSendSync as entry
use Rattle.flurry_seq_recorded.proofs.share.Receipt.TheSendSync as receipt
use Rattle.flurry_seq_recorded.specs.contracts.book.Book as Book
use Rattle.flurry_seq_recorded.specs.contracts.kept.KeptEntry as KeptEntry
use Rattle.flurry_seq_recorded.specs.contracts.share.Receipt as Receipt
use Rattle.flurry_seq_recorded.specs.contracts.recorded.Recorded as Recorded
use Rattle.flurry_seq_recorded.specs.contracts.share.Share as Share
use Rattle.flurry_seq.proofs.Crossing.{map_send}

module _ (K V S A : RattleType) (g : Ghosts A.Denot) (sk : IsSend K) (yk : IsSync K) (sv : IsSend V) (yv : IsSync V) (ss : IsSend S) (sa : IsSend A) (ya : IsSync A) (f : Frees g g.dealloc_token)
    (o : ord.Ghosts K.Denot) (e : eq.Ghosts K.Denot) (p : partial.Ghosts K.Denot) (h : hasher.Ghosts S.Denot K.Denot) where
  entry_send : IsSend (KeptEntry.the_field K V).row
  entry_send = entry.the_field_send K V sk sv

  book_send : IsSend (Book.the_row K V S A o e p h g)
  book_send = let m = map_send K V S A g sk yk sv yv ss sa ya f o e p h in let t = entry_send in search (crosses, sendable) depth 60

  pub recorded_send : IsSend (Recorded.the_row K V S A o e p h g)
  recorded_send = let b = book_send in search (mutex.the_send, sendable) depth 60

  pub recorded_sync : IsSync (Recorded.the_row K V S A o e p h g)
  recorded_sync = let b = book_send in search (mutex.the_sync, sendable) depth 60

module _ (K V A : RattleType) (g : Ghosts A.Denot) (sk : IsSend K) (sv : IsSend V) (sa : IsSend A) (f : Frees g g.dealloc_token) where
  receipt_send : IsSend (Receipt.the_field K V).row
  receipt_send = receipt.the_field_send K V sk sv

  pub share_send : IsSend (Share.the_row K V A g)
  share_send = let r = receipt_send in search (crosses, sendable) depth 60
