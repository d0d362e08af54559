use Rattle.std.proofs.Common.{rules}
use Rattle.flurry_bins.proofs.bin.entry.Entry.compare_place.Goals as goal

pub returns-then-hash-self : goal.returns-then-hash-self
returns-then-hash-self g c = search rules
