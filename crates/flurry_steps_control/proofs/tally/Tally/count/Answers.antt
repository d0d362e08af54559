use Rattle.std.proofs.Common.{rules}
use Rattle.flurry_steps_control.proofs.tally.Tally.count.Goals as goal

pub returns : goal.returns
returns g = search rules
