use Rattle.std.proofs.Common.{arith}
use Rattle.flurry_run_lines.proofs.ScheduleLemmas.{did_front, did_more}
use Rattle.flurry_run_lines.proofs.world.do_steps.Goals as goal

pub returns-in-Err-clause-answer : goal.returns-in-Err-clause-answer
returns-in-Err-clause-answer g c =
    did_front g.F.ComputeFn.changes c.args.party c.loop.counter c.args.steps c.in_ok-out_of_memory-in-Err.field-0 c.args.world.now c.loop.world c.step.new.self
    (g.W.Sink.contents c.args.writer.now) (g.W.Sink.contents c.loop.writer) (g.W.Sink.contents c.out_of_memory.new.writer)
    (omega arith) c.loop.invariant c.in-Err.ensures.err c.in_ok-out_of_memory-in-Err.ensures.status c.in_ok-out_of_memory-in-Err.ensures.bytes

pub loop-preserved : goal.loop-preserved
loop-preserved g c =
    did_more g.F.ComputeFn.changes c.args.party c.loop.counter c.args.world.now c.loop.world c.step.new.self
    (g.W.Sink.contents c.args.writer.now) (g.W.Sink.contents c.loop.writer) (g.W.Sink.contents c.write_last.new.writer)
    c.loop.invariant c.in-Ok.ensures.ok c.in_ok-write_last-in-Ok.ensures.bytes
