use Rattle.std.proofs.Common.{rules}
use Rattle.flurry_steps_sweep.proofs.sweep.Sweep.reply.Goals as goal

pub returns-in-End : goal.returns-in-End
returns-in-End g c = search rules
