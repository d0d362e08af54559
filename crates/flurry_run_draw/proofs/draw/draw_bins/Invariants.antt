use Rattle.std.proofs.Common.{◌≡◌}
use Rattle.flurry_run_draw.proofs.draw.draw_bins.Given as goal

abbrev pub invariant-loop-mark : goal.invariant-loop-mark
invariant-loop-mark l = l.page ≡ l.fn.page
