use Rattle.std.proofs.Common.{◌≡◌, ◌+◌, length, take}
use Rattle.flurry_seq_recorded.specs.Closing.{all_receipts}
use Rattle.flurry_seq_recorded.proofs.checks.have_receipts.Given as goal

abbrev pub invariant-loop-share : goal.invariant-loop-share
invariant-loop-share g l = length (all_receipts (take l.share-index l.shares)) + l.left ≡ l.initial.left
