use Rattle.std.proofs.Common.{◌≡◌, length}
use Rattle.std.specs.Io.KnownBytes.{Consumes}
use Rattle.flurry_run_streams.specs.LineEnds.{HasNoBreak}
use Rattle.flurry_run_streams.proofs.input.read_line.Given as goal

abbrev pub invariant-loop : goal.invariant-loop
invariant-loop g l = record {
  used : length l.line.items ≡ l.counter;
  gave : Consumes (g.R.Source.remaining l.initial.reader) (g.R.Source.remaining l.reader) l.line.items;
  none : HasNoBreak l.line.items;
}
