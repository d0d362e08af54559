use Rattle.flurry_bins.specs.Bin.{entries_of_bin, is_tree}
use Rattle.flurry_bins.proofs.BinSizes.{shape_of_nodes}
use Rattle.flurry_bins.proofs.Chains.{node_chain-out}
use Rattle.flurry_bins.proofs.bin.adaptive.Bin.shape.Goals as goal

pub returns-in-AsList : goal.returns-in-AsList
unfolding entries_of_bin is_tree
returns-in-AsList g c = let list = c.in-AsList.list in rw c.in-AsList.is (shape_of_nodes list.counted (node_chain-out list.head.value))
