use Rattle.flurry_bins.specs.Bin.{entries_of_bin, is_tree, bin_way}
use Rattle.std.proofs.Common.{rules}
use Rattle.flurry_bins.proofs.bin.adaptive.BinOrdered.from_list.Goals as goal

pub returns-clause-kind : goal.returns-clause-kind
unfolding entries_of_bin is_tree bin_way
returns-clause-kind g c = search rules
