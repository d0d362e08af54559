use Rattle.std.proofs.Common.{rules}
use Rattle.flurry_bins.proofs.bin.entry.Entry.is_at.Goals as goal

pub returns : goal.returns
returns g c = search rules
