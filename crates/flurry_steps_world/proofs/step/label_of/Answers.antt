use Rattle.std.proofs.Common.{rules}
use Rattle.flurry_steps_world.proofs.step.label_of.Goals as goal

pub returns-in-Some-last_read : goal.returns-in-Some-last_read
returns-in-Some-last_read g c = search rules
