use Rattle.std.proofs.Common.{rules}
use Rattle.flurry_steps_sweep.proofs.sweep.Sweep.last_read.Goals as goal

pub returns-in-Some : goal.returns-in-Some
returns-in-Some g c = search rules
