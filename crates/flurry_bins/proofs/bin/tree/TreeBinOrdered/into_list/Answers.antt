use Rattle.std.proofs.Common.{rules}
use Rattle.flurry_bins.proofs.bin.tree.TreeBinOrdered.into_list.Goals as goal

pub returns : goal.returns
returns g c = search rules
