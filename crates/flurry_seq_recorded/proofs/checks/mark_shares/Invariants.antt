use Rattle.std.proofs.Common.{[], take}
use Rattle.flurry_seq_recorded.specs.Closing.{all_receipts, places}
use Rattle.flurry_seq_recorded.specs.Marks.{AreMarked}
use Rattle.flurry_seq_recorded.proofs.checks.mark_shares.Given as goal

abbrev pub invariant-loop-share : goal.invariant-loop-share
invariant-loop-share g l = AreMarked l.initial.marks [] → AreMarked l.marks (places (all_receipts (take l.share-index l.shares)))
