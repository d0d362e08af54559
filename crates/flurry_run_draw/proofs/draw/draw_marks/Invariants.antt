use Rattle.std.proofs.Common.{◌≡◌, ◌++◌}
use Rattle.flurry_run_draw.proofs.draw.draw_marks.Given as goal

abbrev pub invariant-loop-mark : goal.invariant-loop-mark
invariant-loop-mark l = l.page ++ l.rest ≡ l.fn.page ++ l.text
