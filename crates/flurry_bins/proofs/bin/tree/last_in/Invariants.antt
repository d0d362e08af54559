use Rattle.std.proofs.Common.{◌≡◌}
use Rattle.std.specs.Option.{option_or, option_copied}
use Rattle.flurry_bins.specs.Tree.{shape_from, tree_size, inorder}
use Rattle.flurry_bins.specs.Entries.{last_of}
use Rattle.flurry_bins.proofs.bin.tree.last_in.Given as goal

abbrev pub invariant-loop-link : goal.invariant-loop-link
invariant-loop-link g l = option_or (last_of (inorder (shape_from l.link))) (option_copied l.best) ≡ last_of (inorder (shape_from l.root))

abbrev pub decreases-loop-link : goal.decreases-loop-link
decreases-loop-link g l = tree_size (shape_from l.link)
