use Rattle.std.proofs.Common.{◌+◌}
use Rattle.flurry_run_lines.proofs.RunLemmas.{goes_none, known_goes, known_ends, stops_failed}
use Rattle.flurry_run_lines.proofs.script.answer_lines.Goals as goal

pub loop-number-init : goal.loop-number-init
loop-number-init g c = goes_none g.S.Script.meaning (g.S.Script.kept c.args.script.now) 1 (g.R.Source.remaining c.args.reader.now) (g.W.Sink.contents c.args.writer.now)

pub loop-number-preserved : goal.loop-number-preserved
loop-number-preserved g c =
    known_goes g.S.Script.meaning (g.S.Script.kept c.args.script.now) (g.S.Script.kept c.loop-number.script) 1 c.loop-number.number (g.R.Source.remaining c.args.reader.now) (g.R.Source.remaining c.loop-number.reader)
    (g.W.Sink.contents c.args.writer.now) (g.W.Sink.contents c.loop-number.writer) (g.W.Sink.contents c.step.new.writer)
    (g.S.Script.kept c.step.new.script) (c.loop-number.number + 1) (g.R.Source.remaining c.step.new.reader) c.loop-number.invariant (rw c.in_default.is at c.in_ok-status.ensures.run)

pub returns-in-Some-clause-run : goal.returns-in-Some-clause-run
returns-in-Some-clause-run g c =
    known_ends g.S.Script.meaning (g.S.Script.kept c.args.script.now) (g.S.Script.kept c.loop-number.script) 1 c.loop-number.number (g.R.Source.remaining c.args.reader.now) (g.R.Source.remaining c.loop-number.reader)
    (g.W.Sink.contents c.args.writer.now) (g.W.Sink.contents c.loop-number.writer) (g.W.Sink.contents c.step.new.writer)
    c.in-Some.status c.loop-number.invariant (rw c.in-Some.is at c.in_ok-status.ensures.run)

pub returns-clause-run : goal.returns-clause-run
returns-clause-run g c =
    stops_failed g.S.Script.meaning c.input_failed.result (g.S.Script.kept c.args.script.now) (g.S.Script.kept c.loop-number.script) 1 c.loop-number.number (g.R.Source.remaining c.args.reader.now) (g.R.Source.remaining c.loop-number.reader)
    (g.W.Sink.contents c.args.writer.now) (g.W.Sink.contents c.loop-number.writer) (g.W.Sink.contents c.input_failed.new.writer)
    c.loop-number.invariant c.input_failed.ensures.status c.input_failed.ensures.bytes
