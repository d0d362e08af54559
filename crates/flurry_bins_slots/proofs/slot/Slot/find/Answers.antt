use Rattle.std.proofs.Common.{rules}
use Rattle.flurry_bins_slots.proofs.slot.Slot.find.Goals as goal

pub returns-in-Live-clause-reply : goal.returns-in-Live-clause-reply
returns-in-Live-clause-reply g c = search rules
