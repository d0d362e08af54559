-- What a removal from a red-black tree makes of it. A tree is short where its ways have one black node fewer than before.
use Rattle.std.specs.Prelude.{◌≡◌, ⊤, ℕ, Bool, false, ◌&&◌, not, cond, Option, Some, None}
use Rattle.std.specs.declared.cmp.Ordering.{Ordering}
use Rattle.std.specs.Ordering.{match_ordering}
use Rattle.flurry_bins.specs.declared.bin.entry.Entry.{Entry}
use Rattle.flurry_bins.specs.declared.bin.node.Colour.{Colour}
use Rattle.flurry_bins.specs.declared.bin.node.Colour.TheVariants.{Red, Black}
use Rattle.flurry_bins.specs.Entries.{place_cmp}
use Rattle.flurry_bins.specs.Tree.{Tree, leaf, fork}
use Rattle.flurry_bins.specs.Balance.{is_black, red_root, with_black_root}

-- a fork without its first entry, that entry, and whether it is short
pub record Out (E : Type 0) : Type 0 where
  pub rest : Tree E
  pub least : E
  pub short : Bool

module _ {E : Type 0} where
  abbrev pub near_left : Colour → Tree E → E → Tree E → E → Tree E → Tree E
  near_left c l e leaf x s = fork c l e (fork Black leaf x s)
  near_left c l e (fork d a y b) x s = fork c (fork Black l e a) y (fork Black b x s)

  -- a root with a short left side, and right of it a black node
  abbrev pub short_left : Colour → Tree E → E → Tree E → E → Tree E → Tree E × Bool
  short_left c l e n x s = cond (red_root s) (fork c (fork Black l e n) x (with_black_root s), false) (cond (red_root n) (near_left c l e n x s, false) (fork Black l e (fork Red n x s), is_black c))

  abbrev pub fix_left : Colour → Tree E → E → Tree E → Tree E × Bool
  fix_left c l e leaf = (fork c l e leaf, false)
  fix_left c l e (fork Black n x s) = short_left c l e n x s
  fix_left c l e (fork Red leaf x s) = (fork c l e (fork Red leaf x s), false)
  fix_left c l e (fork Red (fork d a y b) x s) = (fork Black (short_left Red l e a y b).0 x s, false)

  abbrev pub near_right : Colour → Tree E → E → Tree E → E → Tree E → Tree E
  near_right c s x leaf e r = fork c (fork Black s x leaf) e r
  near_right c s x (fork d a y b) e r = fork c (fork Black s x a) y (fork Black b e r)

  -- the mirror image
  abbrev pub short_right : Colour → Tree E → E → Tree E → E → Tree E → Tree E × Bool
  short_right c s x n e r = cond (red_root s) (fork c (with_black_root s) x (fork Black n e r), false) (cond (red_root n) (near_right c s x n e r, false) (fork Black (fork Red s x n) e r, is_black c))

  abbrev pub fix_right : Colour → Tree E → E → Tree E → Tree E × Bool
  fix_right c leaf e r = (fork c leaf e r, false)
  fix_right c (fork Black s x n) e r = short_right c s x n e r
  fix_right c (fork Red s x leaf) e r = (fork c (fork Red s x leaf) e r, false)
  fix_right c (fork Red s x (fork d a y b)) e r = (fork Black s x (short_right Red a y b e r).0, false)

  abbrev pub settled_left : Bool → Colour → Tree E → E → Tree E → Tree E × Bool
  settled_left short c l e r = cond short (fix_left c l e r) (fork c l e r, false)

  abbrev pub settled_right : Bool → Colour → Tree E → E → Tree E → Tree E × Bool
  settled_right short c l e r = cond short (fix_right c l e r) (fork c l e r, false)

  -- a tree whose left side, or right side, is short, and one where it may be
  abbrev pub fixed_left : Tree E → Tree E × Bool
  fixed_left leaf = (leaf, false)
  fixed_left (fork c l e r) = fix_left c l e r

  abbrev pub mended_left : Bool → Tree E → Tree E × Bool
  mended_left short t = cond short (fixed_left t) (t, false)

  abbrev pub fixed_right : Tree E → Tree E × Bool
  fixed_right leaf = (leaf, false)
  fixed_right (fork c l e r) = fix_right c l e r

  abbrev pub mended_right : Bool → Tree E → Tree E × Bool
  mended_right short t = cond short (fixed_right t) (t, false)

  abbrev pub least_out : Colour → Tree E → E → Tree E → Out E
  least_out c leaf e r = record { rest = with_black_root r; least = e; short = is_black c && not (red_root r) }
  least_out c (fork d a x b) e r =
      let p = least_out d a x b in
      let q = settled_left p.short c p.rest e r in
      record { rest = q.0; least = p.least; short = q.1 }

  -- the same of a tree that has an entry
  abbrev pub IsOutOf : Tree E → Out E → Type 0
  IsOutOf leaf p = ⊤
  IsOutOf (fork c l e r) p = p ≡ least_out c l e r

  -- two sides without what stood between them
  abbrev pub join_of : Colour → Tree E → Tree E → Tree E × Bool
  join_of c l leaf = (with_black_root l, is_black c && not (red_root l))
  join_of c l (fork d a x b) = let p = least_out d a x b in settled_right p.short c l p.least p.rest

-- the tree without what stands at the place
abbrev pub tree_removal : {K V A : Type 0} → (K → K → Ordering) → ℕ → K → Tree (Entry K V A) → Tree (Entry K V A) × Bool
tree_removal cmp h k leaf = (leaf, false)
tree_removal cmp h k (fork c l e r) = match_ordering (place_cmp cmp h k e) (settled_left (tree_removal cmp h k l).1 c (tree_removal cmp h k l).0 e r) (join_of c l r) (settled_right (tree_removal cmp h k r).1 c l e (tree_removal cmp h k r).0)

-- the entry that a look-up in the tree leads to
abbrev pub tree_entry : {K V A : Type 0} → (K → K → Ordering) → ℕ → K → Tree (Entry K V A) → Option (Entry K V A)
tree_entry cmp h k leaf = None
tree_entry cmp h k (fork c l e r) = match_ordering (place_cmp cmp h k e) (tree_entry cmp h k l) (Some e) (tree_entry cmp h k r)
