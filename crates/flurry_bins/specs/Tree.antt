-- A search tree of entries, as a plain tree with colours.
use Rattle.std.specs.Prelude.{◌≡◌, ℕ, ◌+◌, ◌-◌, ◌≤◌, ⊤, List, [], ◌∷◌, ◌++◌, Option, Some, None, Box}
use Rattle.std.specs.declared.cmp.Ordering.{Ordering}
use Rattle.std.specs.Borrow.{Bor}
use Rattle.std.specs.Ordering.{match_ordering}
use Rattle.std.specs.Coded.{×_prop, Unit-prop, le_prop, Coded-set, coded_ℕ}
use Rattle.flurry_bins.specs.declared.bin.entry.Entry.{Entry}
use Rattle.flurry_bins.specs.declared.bin.node.Colour.{Colour}
use Rattle.flurry_bins.specs.declared.bin.node.Colour.TheVariants.{Red, Black}
use Rattle.flurry_bins.specs.declared.bin.node.Node.{Node, Node', Held-Node-right, None', Some'}
use Rattle.flurry_bins.specs.Entries.{place_cmp}

pub data Tree (E : Type 0) : Type 0 where
  leaf : Tree E
  fork : Colour → Tree E → E → Tree E → Tree E

abbrev mutual
  -- the tree below a node
  pub node_shape : {K V A : Type 0} → Node K V A → Tree (Entry K V A)
  node_shape (Node' right entry left colour) = fork colour (held_shape left) entry (held_shape right)

  pub held_shape : {K V A : Type 0} → Held-Node-right K V A → Tree (Entry K V A)
  held_shape None' = leaf
  held_shape (Some' p n) = node_shape n

-- the tree that a link leads to
abbrev pub shape : {K V A : Type 0} → Option (Box (Node K V A) A) → Tree (Entry K V A)
shape None = leaf
shape (Some b) = node_shape b.value

-- the same from a node on that is lent
abbrev pub shape_from : {K V A : Type 0} → Option (Bor (Node K V A)) → Tree (Entry K V A)
shape_from None = leaf
shape_from (Some b) = node_shape b.now

-- its entries from left to right
abbrev pub inorder : {E : Type 0} → Tree E → List E
inorder leaf = []
inorder (fork c l e r) = inorder l ++ e ∷ inorder r

-- 1 where it is red
abbrev pub redness : Colour → ℕ
redness Red = 1
redness Black = 0

abbrev pub root_redness : {E : Type 0} → Tree E → ℕ
root_redness leaf = 0
root_redness (fork c l e r) = redness c

-- how many black nodes are on the leftmost way
abbrev pub black_height : {E : Type 0} → Tree E → ℕ
black_height leaf = 0
black_height (fork c l e r) = black_height l + (1 - redness c)

-- each way down has as many black nodes, and no red node has a red child
abbrev pub IsRedBlack : {E : Type 0} → Tree E → Type 0
IsRedBlack leaf = ⊤
IsRedBlack (fork c l e r) = IsRedBlack l × (IsRedBlack r × ((black_height l ≡ black_height r) × ((redness c + root_redness l ≤ 1) × (redness c + root_redness r ≤ 1))))

pub IsRedBlack-prop : {E : Type 0} (t : Tree E) → IsProp (IsRedBlack t)
IsRedBlack-prop leaf = Unit-prop
IsRedBlack-prop (fork c l e r) = ×_prop (IsRedBlack-prop l) (×_prop (IsRedBlack-prop r) (×_prop (Coded-set coded_ℕ (black_height l) (black_height r)) (×_prop le_prop le_prop)))

-- the entries that are met from the root on, up to that of (h, k)
abbrev pub tree_way : {K V A : Type 0} → (K → K → Ordering) → ℕ → K → Tree (Entry K V A) → List (Entry K V A)
tree_way cmp h k leaf = []
tree_way cmp h k (fork c l e r) = e ∷ match_ordering (place_cmp cmp h k e) (tree_way cmp h k l) [] (tree_way cmp h k r)

-- how many entries it has
abbrev pub tree_size : {E : Type 0} → Tree E → ℕ
tree_size leaf = 0
tree_size (fork c l e r) = tree_size l + tree_size r + 1
