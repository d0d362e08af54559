-- A tree with another value at a place.
use Rattle.std.specs.Prelude.{ℕ, Option, Some, None}
use Rattle.std.specs.declared.cmp.Ordering.{Ordering}
use Rattle.std.specs.Ordering.{match_ordering}
use Rattle.std.specs.declared.sync.Arc.{Arc}
use Rattle.flurry_bins.specs.declared.bin.entry.Entry.{Entry}
use Rattle.flurry_bins.specs.Entries.{place_cmp, with_value}
use Rattle.flurry_bins.specs.Tree.{Tree, leaf, fork}

abbrev pub tree_with_value : {K V A : Type 0} → (K → K → Ordering) → ℕ → K → Arc V A → ℕ → Tree (Entry K V A) → Tree (Entry K V A)
tree_with_value cmp h k v n leaf = leaf
tree_with_value cmp h k v n (fork c l e r) = match_ordering (place_cmp cmp h k e) (fork c (tree_with_value cmp h k v n l) e r) (fork c l (with_value e v n) r) (fork c l e (tree_with_value cmp h k v n r))

-- the value that a look-up in the tree leads to
abbrev pub tree_value : {K V A : Type 0} → (K → K → Ordering) → ℕ → K → Tree (Entry K V A) → Option (Arc V A)
tree_value cmp h k leaf = None
tree_value cmp h k (fork c l e r) = match_ordering (place_cmp cmp h k e) (tree_value cmp h k l) (Some e.value) (tree_value cmp h k r)
