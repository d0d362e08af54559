use Rattle.std.proofs.Common.{◌≡◌}
use Rattle.std.specs.Option.{option_or, option_copied}
use Rattle.flurry_bins.specs.Tree.{shape_from, tree_size, inorder}
use Rattle.flurry_bins.specs.Entries.{IsAscending, first_past, lent_bound}
use Rattle.flurry_bins.proofs.bin.tree.next_in.Given as goal

abbrev pub invariant-loop-link : goal.invariant-loop-link
invariant-loop-link g l = record {
  ascending : IsAscending g.K.Ord.cmp (inorder (shape_from l.link));
  first : option_or (first_past g.K.Ord.cmp (lent_bound l.bound) (inorder (shape_from l.link))) (option_copied l.best) ≡ first_past g.K.Ord.cmp (lent_bound l.bound) (inorder (shape_from l.root));
}

abbrev pub decreases-loop-link : goal.decreases-loop-link
decreases-loop-link g l = tree_size (shape_from l.link)
