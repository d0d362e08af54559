use Rattle.std.proofs.Common.{rules}
use Rattle.flurry_bins_slots.proofs.slot.Receipt.at.Goals as goal

pub returns : goal.returns
returns c = search rules
