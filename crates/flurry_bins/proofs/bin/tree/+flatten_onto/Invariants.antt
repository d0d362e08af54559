use Rattle.flurry_bins.specs.Tree.{shape, tree_size}
use Rattle.flurry_bins.proofs.bin.tree.+flatten_onto.Given as goal

abbrev pub decreases-flatten_onto : goal.decreases-flatten_onto
decreases-flatten_onto g l = tree_size (shape l.root)
