use Rattle.std.proofs.Common.{rules}
use Rattle.flurry_bins.specs.Bin.{entries_of_bin}
use Rattle.flurry_bins.proofs.bin.adaptive.BinOrdered.len.Goals as goal

pub returns-in-AsList : goal.returns-in-AsList
unfolding entries_of_bin
returns-in-AsList g c = search rules
