use Rattle.flurry_bins.specs.Tree.{shape_from, tree_size}
use Rattle.flurry_bins.proofs.bin.tree.+greatest_in.Given as goal

abbrev pub decreases-greatest_in : goal.decreases-greatest_in
decreases-greatest_in g l = tree_size (shape_from l.root)
