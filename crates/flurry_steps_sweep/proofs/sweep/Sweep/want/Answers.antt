use Rattle.std.proofs.Common.{rules}
use Rattle.flurry_steps_sweep.proofs.sweep.Sweep.want.Goals as goal

pub returns-in-Read : goal.returns-in-Read
returns-in-Read g c = search rules
