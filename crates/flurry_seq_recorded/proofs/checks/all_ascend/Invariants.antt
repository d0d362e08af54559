use Rattle.std.proofs.Common.{take}
use Rattle.std.specs.Prelude.{All}
use Rattle.std.specs.List.Sorted.{IsStrictlyIncreasing}
use Rattle.flurry_seq_recorded.specs.Closing.{places}
use Rattle.flurry_seq_recorded.specs.Shares.{ShareContents}
use Rattle.flurry_seq_recorded.proofs.checks.all_ascend.Given as goal

abbrev pub invariant-loop-share : goal.invariant-loop-share
invariant-loop-share g l = All (λ (s : ShareContents g.row.K.Denot g.row.V.Denot). IsStrictlyIncreasing (places s.receipts)) (take l.share-index l.shares)
