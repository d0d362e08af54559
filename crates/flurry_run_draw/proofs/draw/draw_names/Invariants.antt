use Rattle.flurry_run_draw.specs.ReaderState.{AddsNames}
use Rattle.flurry_run_draw.proofs.draw.draw_names.Given as goal

abbrev pub invariant-loop-lane : goal.invariant-loop-lane
invariant-loop-lane l = AddsNames l.fn.page l.page
