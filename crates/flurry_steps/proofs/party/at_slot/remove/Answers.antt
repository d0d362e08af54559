use Rattle.std.proofs.Common.{rules}
use Rattle.flurry_steps.proofs.party.at_slot.remove.Goals as goal

pub returns-in-Here-Some-clause-step : goal.returns-in-Here-Some-clause-step
returns-in-Here-Some-clause-step g c = search rules
