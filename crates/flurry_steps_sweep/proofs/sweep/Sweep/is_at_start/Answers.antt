use Rattle.std.proofs.Common.{rules}
use Rattle.flurry_steps_sweep.proofs.sweep.Sweep.is_at_start.Goals as goal

pub returns-in-Start : goal.returns-in-Start
returns-in-Start g c = search rules
