use Rattle.std.proofs.Common.{rules}
use Rattle.flurry_bins_slots.proofs.slot.receipts_can_be_cloned.Goals as goal

pub returns : goal.returns
returns c = search rules
