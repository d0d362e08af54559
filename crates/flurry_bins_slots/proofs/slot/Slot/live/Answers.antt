use Rattle.std.proofs.Common.{rules}
use Rattle.flurry_bins_slots.proofs.slot.Slot.live.Goals as goal

pub live_at-requires-clause-count : goal.live_at-requires-clause-count
live_at-requires-clause-count g c = search rules
