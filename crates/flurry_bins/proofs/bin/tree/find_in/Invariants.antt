use Rattle.std.proofs.Common.{◌≡◌, ◌+◌, ◌≤◌, length}
use Rattle.flurry_bins.specs.Tree.{shape_from, tree_size, inorder, tree_way}
use Rattle.flurry_bins.specs.Entries.{IsAscending, entry_at}
use Rattle.flurry_bins.proofs.bin.tree.find_in.Given as goal
use Rattle.flurry_base.specs.declared.sizes.TheConstants.{MAX_LEN}

abbrev pub invariant-loop-link : goal.invariant-loop-link
invariant-loop-link g l = record {
  ascending : IsAscending g.K.Ord.cmp (inorder (shape_from l.link));
  found : entry_at g.K.Ord.cmp l.hash (g.Q.Query.stands_for l.key) (inorder (shape_from l.link)) ≡ entry_at g.K.Ord.cmp l.hash (g.Q.Query.stands_for l.key) (inorder (shape_from l.root));
  visits : l.visits + length (tree_way g.K.Ord.cmp l.hash (g.Q.Query.stands_for l.key) (shape_from l.link)) ≡ length (tree_way g.K.Ord.cmp l.hash (g.Q.Query.stands_for l.key) (shape_from l.root));
  short : l.visits + length (inorder (shape_from l.link)) ≤ MAX_LEN;
}

abbrev pub decreases-loop-link : goal.decreases-loop-link
decreases-loop-link g l = tree_size (shape_from l.link)
