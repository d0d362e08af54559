use Rattle.std.proofs.Common.{rules}
use Rattle.flurry_bins_slots.proofs.live.LiveBin.drain.Goals as goal

pub returns-clause-after : goal.returns-clause-after
returns-clause-after g c = search rules
