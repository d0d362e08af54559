use Rattle.std.proofs.Common.{[], refl}
use Rattle.std.proofs.KnownBytes.{Appends-nil}
use Rattle.flurry_run_lines.proofs.world.make_world.Goals as goal

pub returns-in-Ok-clause-answer : goal.returns-in-Ok-clause-answer
returns-in-Ok-clause-answer g c = rw c.in-World.is ([], (_, c.in-Ok.new, c.in-Ok.ensures, refl, refl), Appends-nil (g.W.Sink.contents c.args.writer.now))
