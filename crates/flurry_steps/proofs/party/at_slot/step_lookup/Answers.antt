use Rattle.std.proofs.Common.{rules}
use Rattle.flurry_steps.proofs.party.at_slot.step_lookup.Goals as goal

pub returns-in-Moved-clause-nearer : goal.returns-in-Moved-clause-nearer
returns-in-Moved-clause-nearer g c = search rules
