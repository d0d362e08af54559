use Rattle.std.proofs.Common.{IfSome}
use Rattle.flurry_run_lines.specs.Runs.{Goes}
use Rattle.flurry_run_lines.proofs.script.answer_lines.Given as goal

abbrev pub invariant-loop-number : goal.invariant-loop-number
invariant-loop-number g l = IfSome (g.R.Source.remaining l.initial.reader) (λ input.
    Goes g.S.Script.meaning (g.S.Script.kept l.initial.script) 1 input (g.S.Script.kept l.script) l.number (g.R.Source.remaining l.reader) (g.W.Sink.contents l.initial.writer) (g.W.Sink.contents l.writer))
