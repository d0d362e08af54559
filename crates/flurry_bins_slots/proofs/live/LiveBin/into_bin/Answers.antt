use Rattle.std.proofs.Common.{rules}
use Rattle.flurry_bins_slots.proofs.live.LiveBin.into_bin.Goals as goal

pub returns : goal.returns
returns g c = search rules
