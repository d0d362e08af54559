use Rattle.std.proofs.Common.{rules}
use Rattle.flurry_steps_control.proofs.tally.Tally.is_at_least.Goals as goal

pub returns : goal.returns
returns c = search rules
