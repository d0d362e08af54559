use Rattle.flurry_bins.specs.Bin.{entries_of_bin, is_tree}
use Rattle.std.proofs.Common.{rules}
use Rattle.flurry_bins.proofs.bin.adaptive.Bin.greatest_number.Goals as goal

pub returns-in-AsList : goal.returns-in-AsList
unfolding entries_of_bin is_tree
returns-in-AsList g c = search rules
