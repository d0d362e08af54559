use Rattle.std.proofs.Common.{rules}
use Rattle.flurry_bins.proofs.bin.entry.Entry.is_past.Goals as goal

pub returns-in-Some : goal.returns-in-Some
returns-in-Some g c = search rules
