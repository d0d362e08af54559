use Rattle.std.proofs.Common.{inl, inr}
use Rattle.flurry_seq_recorded.proofs.MarkLemmas.{marked_more, not_once}
use Rattle.flurry_seq_recorded.proofs.checks.mark.Goals as goal
use Rattle.flurry_seq_recorded.proofs.checks.mark.Goals.{then-place-marks-via-then-place-marks, then-place-marks-via-else-place-marks+then-marks-place}

pub returns-then-place-marks : goal.returns-then-place-marks
returns-then-place-marks c = λ xs before ys once.
    elim c.then-place-marks.branch [
      | then-place-marks-via-then-place-marks w ↦ not_once c.args.marks.now xs ys c.args.place (inl w.if-place-marks.true) before once
      | then-place-marks-via-else-place-marks+then-marks-place w ↦ not_once c.args.marks.now xs ys c.args.place (inr w.if-marks-place.true) before once
    ]

pub returns : goal.returns
returns c = λ xs before. marked_more c.args.marks.now xs c.args.place c.if-place-marks.false c.if-marks-place.false before
