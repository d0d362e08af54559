-- When a bin is a list and when a tree, by how many entries it has.
use Rattle.std.specs.Prelude.{ℕ, ◌≤◌, ◌==◌, ◌&&◌, ◌||◌, nat_le, nat_lt, not, Bool, true, false}
use Rattle.std.specs.Coded.{le_prop}
use Rattle.flurry_base.specs.declared.sizes.TheConstants.{MAX_LIST_LEN, MIN_TREE_LEN, TREEIFY_LEN, MIN_TREEIFY_BINS}

-- a tree has at least 7 nodes, and a list at most 9
abbrev pub IsSized : Bool → ℕ → Type 0
IsSized true n = MIN_TREE_LEN ≤ n
IsSized false n = n ≤ MAX_LIST_LEN

-- one more entry makes a tree of a list of nine, and of one of eight in a table of 64 bins or more
abbrev pub grows_into_tree : ℕ → Bool → ℕ → Bool
grows_into_tree bins tree n = tree || (nat_le MAX_LIST_LEN n || (n == TREEIFY_LEN && nat_le MIN_TREEIFY_BINS bins))

-- one more entry in a list of eight asks for a larger table where the table has fewer bins
abbrev pub asks_for_growth : ℕ → Bool → ℕ → Bool
asks_for_growth bins tree n = not tree && (n == TREEIFY_LEN && nat_lt bins MIN_TREEIFY_BINS)

pub IsSized-prop : (tree : Bool) (n : ℕ) → IsProp (IsSized tree n)
IsSized-prop true n = le_prop
IsSized-prop false n = le_prop
