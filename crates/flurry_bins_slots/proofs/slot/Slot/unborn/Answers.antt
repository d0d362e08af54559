use Rattle.std.proofs.Common.{rules}
use Rattle.flurry_bins_slots.proofs.slot.Slot.unborn.Goals as goal

pub returns : goal.returns
returns g c = search rules
