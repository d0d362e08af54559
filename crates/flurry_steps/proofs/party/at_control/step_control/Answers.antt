use Rattle.std.proofs.Common.{rules}
use Rattle.flurry_steps.proofs.party.at_control.step_control.Goals as goal

pub returns-in-Uncount-clause-step : goal.returns-in-Uncount-clause-step
returns-in-Uncount-clause-step g c = search rules
