use Rattle.std.proofs.Common.{[], map, take}
use Rattle.flurry_seq_recorded.specs.Marks.{AreMarked}
use Rattle.flurry_seq_recorded.specs.Shares.{ShareContents}
use Rattle.flurry_seq_recorded.proofs.checks.mark_numbers.Given as goal

abbrev pub invariant-loop-share : goal.invariant-loop-share
invariant-loop-share g l = AreMarked l.initial.marks [] → AreMarked l.marks (map (λ (s : ShareContents g.row.K.Denot g.row.V.Denot). s.number) (take l.share-index l.shares))
