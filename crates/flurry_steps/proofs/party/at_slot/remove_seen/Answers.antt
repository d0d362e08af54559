use Rattle.std.proofs.Common.{rules}
use Rattle.flurry_steps.proofs.party.at_slot.remove_seen.Goals as goal

pub returns-in-Here-None-clause-step : goal.returns-in-Here-None-clause-step
returns-in-Here-None-clause-step g c = search rules

pub returns-in-Here-Some-clause-step : goal.returns-in-Here-Some-clause-step
returns-in-Here-Some-clause-step g c = search rules
