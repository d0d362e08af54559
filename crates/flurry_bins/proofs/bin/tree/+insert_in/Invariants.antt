use Rattle.flurry_bins.specs.Tree.{shape, tree_size}
use Rattle.flurry_bins.proofs.bin.tree.+insert_in.Given as goal

abbrev pub decreases-insert_in : goal.decreases-insert_in
decreases-insert_in g l = tree_size (shape l.root.now)
