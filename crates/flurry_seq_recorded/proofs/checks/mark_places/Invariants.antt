use Rattle.std.proofs.Common.{◌++◌, ℕ, List, take}
use Rattle.flurry_seq_recorded.specs.Closing.{places}
use Rattle.flurry_seq_recorded.specs.Marks.{AreMarked}
use Rattle.flurry_seq_recorded.proofs.checks.mark_places.Given as goal

abbrev pub invariant-loop-receipt : goal.invariant-loop-receipt
invariant-loop-receipt g l = (xs : List ℕ) → AreMarked l.initial.marks xs → AreMarked l.marks (xs ++ places (take l.receipt-index l.receipts))
