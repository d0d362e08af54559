use Rattle.std.proofs.Common.{rules}
use Rattle.flurry_steps_world.proofs.step.closing.Goals as goal

pub returns-in-Some : goal.returns-in-Some
returns-in-Some g c = search rules
