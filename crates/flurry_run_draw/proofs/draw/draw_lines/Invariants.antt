use Rattle.std.proofs.Common.{◌≡◌}
use Rattle.flurry_run_draw.proofs.draw.draw_lines.Given as goal

abbrev pub invariant-loop-lane : goal.invariant-loop-lane
invariant-loop-lane l = l.page ≡ l.fn.page
