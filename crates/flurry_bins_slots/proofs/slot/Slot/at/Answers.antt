use Rattle.std.proofs.Common.{rules}
use Rattle.flurry_bins_slots.proofs.slot.Slot.at.Goals as goal

pub returns-clause-at : goal.returns-clause-at
returns-clause-at g c = search rules
