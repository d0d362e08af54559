use Rattle.std.proofs.Common.{arith}
use Rattle.std.proofs.lemmas.Bool.Decides.{nat_tests}
use Rattle.flurry_run_lines.proofs.RunLemmas.{step_break, step_long, step_last, step_last_bad, step_failed}
use Rattle.flurry_run_lines.proofs.script.answer_next.Goals as goal

pub returns-in-Break-clause-run : goal.returns-in-Break-clause-run
returns-in-Break-clause-run g c =
    let gave = rw c.in-Break.is at c.in-Ok.ensures.gave in
    step_break g.S.Script.meaning (g.S.Script.kept c.args.script.now) (g.S.Script.kept c.answer_line.new.self) c.args.number c.in-Ok.line.items (g.W.Sink.contents c.args.writer.now) (g.W.Sink.contents c.answer_line.new.writer)
    (g.R.Source.remaining c.args.reader.now) (g.R.Source.remaining c.read_line.new.reader) c.answer_line.result gave.0 gave.1
    (rw c.as_slice.ensures.value at c.answer_line.ensures.answer)

pub returns-in_ok-bad_line-in-Long-clause-run : goal.returns-in_ok-bad_line-in-Long-clause-run
returns-in_ok-bad_line-in-Long-clause-run g c =
    let gave = rw c.in-Long.is at c.in-Ok.ensures.gave in
    step_long g.S.Script.meaning (g.S.Script.kept c.args.script.now) (g.S.Script.kept c.args.script.now) c.args.number c.in-Ok.line.items (g.W.Sink.contents c.args.writer.now) (g.W.Sink.contents c.bad_line.new.writer)
    g.met.S.Script.short (g.R.Source.remaining c.args.reader.now) (g.R.Source.remaining c.read_line.new.reader) c.in_ok-bad_line-in-Long.field-0 gave.0 gave.1 gave.2
    c.in_ok-bad_line-in-Long.ensures.status c.in_ok-bad_line-in-Long.ensures.bytes

pub returns-in-None-clause-run : goal.returns-in-None-clause-run
returns-in-None-clause-run g c =
    let gave = rw c.in-End.is at c.in-Ok.ensures.gave in
    let answered = rw c.in-None.is at c.in_ok-answer_line-in-End.ensures.answer in
    step_last g.S.Script.meaning (g.S.Script.kept c.args.script.now) (g.S.Script.kept c.answer_line-in-End.new.self) c.args.number c.in-Ok.line.items (g.W.Sink.contents c.args.writer.now) (g.W.Sink.contents c.answer_line-in-End.new.writer)
    (g.R.Source.remaining c.args.reader.now) (g.R.Source.remaining c.read_line.new.reader) gave.0 gave.1 gave.2 (grind (arith, nat_tests, c.is_empty.ensures, c.if-is_empty.false))
    (rw c.as_slice-in-End.ensures.value at answered)

pub returns-in-Some-clause-run : goal.returns-in-Some-clause-run
returns-in-Some-clause-run g c =
    let gave = rw c.in-End.is at c.in-Ok.ensures.gave in
    let refused = rw c.in-Some.is at c.in_ok-answer_line-in-End.ensures.answer in
    step_last_bad g.S.Script.meaning (g.S.Script.kept c.args.script.now) (g.S.Script.kept c.answer_line-in-End.new.self) c.args.number c.in-Ok.line.items (g.W.Sink.contents c.args.writer.now) (g.W.Sink.contents c.answer_line-in-End.new.writer)
    (g.R.Source.remaining c.args.reader.now) (g.R.Source.remaining c.read_line.new.reader) c.in-Some.status gave.0 gave.1 gave.2 (grind (arith, nat_tests, c.is_empty.ensures, c.if-is_empty.false))
    (rw c.as_slice-in-End.ensures.value at refused)

pub returns-in_ok-input_failed-in-Err-clause-run : goal.returns-in_ok-input_failed-in-Err-clause-run
returns-in_ok-input_failed-in-Err-clause-run g c =
    step_failed g.S.Script.meaning (g.S.Script.kept c.args.script.now) c.args.number c.in_ok-input_failed-in-Err.field-0 (g.R.Source.remaining c.args.reader.now) (g.W.Sink.contents c.args.writer.now) (g.W.Sink.contents c.input_failed.new.writer)
    c.in_ok-input_failed-in-Err.ensures.status c.in_ok-input_failed-in-Err.ensures.bytes
