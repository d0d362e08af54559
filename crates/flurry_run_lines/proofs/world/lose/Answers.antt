use Rattle.flurry_steps_world.specs.declared.world.Step.TheVariants as step
use Rattle.flurry_run_lines.proofs.ScheduleLemmas.{lost_once, not_done}
use Rattle.flurry_run_lines.proofs.world.lose.Goals as goal

pub returns-in_ok-write_last-in-Ok-clause-answer : goal.returns-in_ok-write_last-in-Ok-clause-answer
returns-in_ok-write_last-in-Ok-clause-answer g c =
    lost_once g.F.ComputeFn.changes c.args.world.now c.lose.new.self c.args.party
    (g.W.Sink.contents c.args.writer.now) (g.W.Sink.contents c.write_last.new.writer)
    c.in-Ok.ensures.ok c.in_ok-write_last-in-Ok.ensures.bytes

pub returns-in_ok-out_of_memory-in-Err-clause-answer : goal.returns-in_ok-out_of_memory-in-Err-clause-answer
returns-in_ok-out_of_memory-in-Err-clause-answer g c =
    not_done g.F.ComputeFn.changes c.in_ok-out_of_memory-in-Err.field-0 c.args.world.now c.lose.new.self (step.Lose c.args.party)
    (g.W.Sink.contents c.args.writer.now) (g.W.Sink.contents c.out_of_memory.new.writer)
    c.in-Err.ensures.err c.in_ok-out_of_memory-in-Err.ensures.status c.in_ok-out_of_memory-in-Err.ensures.bytes
