use Rattle.flurry_run_lines.proofs.ScheduleLemmas.{drop_line}
use Rattle.flurry_run_lines.proofs.world.answer_in.Goals as goal

pub returns-in-Drop-clause-answer : goal.returns-in-Drop-clause-answer
returns-in-Drop-clause-answer g c =
    rw c.in-Drop.is (drop_line g.F.ComputeFn.changes c.in-Drop.party c.args.number c.args.world.now c.begin_drop.new.world
    (g.W.Sink.contents c.args.writer.now) (g.W.Sink.contents c.begin_drop.new.writer) c.begin_drop.result c.begin_drop.ensures.answer)
