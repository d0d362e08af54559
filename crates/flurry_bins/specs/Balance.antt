-- What an insertion into a red-black tree makes of it.
use Rattle.std.specs.Prelude.{Bool, true, false, ◌&&◌, ◌||◌, cond}
use Rattle.std.specs.declared.cmp.Ordering.{Ordering}
use Rattle.std.specs.Ordering.{is_lt}
use Rattle.flurry_bins.specs.declared.bin.entry.Entry.{Entry}
use Rattle.flurry_bins.specs.declared.bin.node.Colour.{Colour}
use Rattle.flurry_bins.specs.declared.bin.node.Colour.TheVariants.{Red, Black}
use Rattle.flurry_bins.specs.Entries.{entry_cmp}
use Rattle.flurry_bins.specs.Tree.{Tree, leaf, fork}

abbrev pub is_red : Colour → Bool
is_red Red = true
is_red Black = false

abbrev pub is_black : Colour → Bool
is_black Red = false
is_black Black = true

module _ {E : Type 0} where
  abbrev pub red_root : Tree E → Bool
  red_root leaf = false
  red_root (fork c l e r) = is_red c

  -- the root is red and has a red child
  abbrev pub red_over_red : Tree E → Bool
  red_over_red leaf = false
  red_over_red (fork c l e r) = is_red c && (red_root l || red_root r)

  -- the root is black, and left of it, or right of it, is a red node over a red one
  abbrev pub leans_left : Tree E → Bool
  leans_left leaf = false
  leans_left (fork c l e r) = is_black c && red_over_red l

  abbrev pub leans_right : Tree E → Bool
  leans_right leaf = false
  leans_right (fork c l e r) = is_black c && red_over_red r

  -- the same with a black root
  abbrev pub with_black_root : Tree E → Tree E
  with_black_root leaf = leaf
  with_black_root (fork c l e r) = fork Black l e r

  -- a black root over a red left child, whose left child is red: the left child goes up
  abbrev pub left_up : Tree E → E → Tree E → Tree E
  left_up leaf e r = fork Black leaf e r
  left_up (fork c a x b) e r = fork Red (with_black_root a) x (fork Black b e r)

  -- the same where its right child is red: that one goes up
  abbrev pub left_inner_up_by : Tree E → E → Tree E → E → Tree E → Tree E
  left_inner_up_by a x leaf e r = fork Black (fork Red a x leaf) e r
  left_inner_up_by a x (fork c b y d) e r = fork Red (fork Black a x b) y (fork Black d e r)

  -- a root with the left child's tree, where that may have a red root over a red child
  abbrev pub balance_left : Colour → Tree E → E → Tree E → Tree E
  balance_left c leaf e r = fork c leaf e r
  balance_left c (fork d a x b) e r =
      cond (is_black c && is_red d && red_root a) (left_up (fork d a x b) e r) (cond (is_black c && is_red d && red_root b) (left_inner_up_by a x b e r) (fork c (fork d a x b) e r))

  -- the mirror image
  abbrev pub right_inner_up_by : Tree E → E → Tree E → E → Tree E → Tree E
  right_inner_up_by l e leaf y d = fork Black l e (fork Red leaf y d)
  right_inner_up_by l e (fork c a x b) y d = fork Red (fork Black l e a) x (fork Black b y d)

  abbrev pub balance_right : Colour → Tree E → E → Tree E → Tree E
  balance_right c l e leaf = fork c l e leaf
  balance_right c l e (fork d b y a) =
      cond (is_black c && is_red d && red_root a) (fork Red (fork Black l e b) y (with_black_root a)) (cond (is_black c && is_red d && red_root b) (right_inner_up_by l e b y a) (fork c l e (fork d b y a)))

module _ {E : Type 0} where
  -- a tree whose left side, or right side, may have a red root over a red child
  abbrev pub balanced_left : Tree E → Tree E
  balanced_left leaf = leaf
  balanced_left (fork c l e r) = balance_left c l e r

  abbrev pub balanced_right : Tree E → Tree E
  balanced_right leaf = leaf
  balanced_right (fork c l e r) = balance_right c l e r

-- the tree with a new entry
abbrev pub put_tree : {K V A : Type 0} → (K → K → Ordering) → Entry K V A → Tree (Entry K V A) → Tree (Entry K V A)
put_tree cmp x leaf = fork Red leaf x leaf
put_tree cmp x (fork c l e r) = cond (is_lt (entry_cmp cmp x e)) (balance_left c (put_tree cmp x l) e r) (balance_right c l e (put_tree cmp x r))
