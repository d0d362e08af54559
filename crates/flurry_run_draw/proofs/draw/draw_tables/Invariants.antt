use Rattle.flurry_run_draw.specs.ReaderState.{AddsNames}
use Rattle.flurry_run_draw.proofs.draw.draw_tables.Given as goal

abbrev pub invariant-loop-table : goal.invariant-loop-table
invariant-loop-table l = AddsNames l.fn.page l.page
