-- A tree at its root, and a walk down it.
use Rattle.std.proofs.Common.{◌≡◌, ℕ, ◌+◌, ◌<◌, ◌≤◌, true, false, arith, List, [], ◌∷◌, ◌++◌, length, Option, Some, None, Box, refl, sym, ap, ◌∙◌, cond}
use Rattle.std.proofs.lemmas.List.{length-append}
use Rattle.std.specs.Borrow.{Bor}
use Rattle.std.specs.Option.{option_or}
use Rattle.std.proofs.lemmas.List.Folds.{find-append}
use Rattle.std.specs.declared.cmp.Ordering.{Ordering}
use Rattle.std.specs.declared.cmp.Ordering.TheVariants.{Less, Equal, Greater}
use Rattle.std.specs.Ordering.{is_eq, is_lt, is_gt, match_ordering}
use Rattle.std.specs.Cmp.{IsTotalOrder}
use Rattle.flurry_bins.specs.declared.bin.entry.Entry.{Entry}
use Rattle.flurry_bins.specs.declared.bin.node.Colour.{Colour}
use Rattle.flurry_bins.specs.declared.bin.node.Node.{Node, Node', out-Node, roll-Node, None', Some'}
use Rattle.flurry_bins.specs.Entries.{place_cmp, entry_cmp, IsAscending, entry_at, AllBefore, is_past_bound, first_past}
use Rattle.flurry_bins.specs.Tree.{Tree, fork, shape, shape_from, node_shape, inorder, tree_way}
use Rattle.flurry_base.proofs.ListParts.{sorted_back, sorted_front}
use Rattle.flurry_base.proofs.ListParts as sides
use Rattle.flurry_bins.proofs.OneHash.{or_again}
use Rattle.flurry_bins.proofs.Places.{AllPast, place, past_rest, entry_at-back, entry_at-front, first_past-front}

pub node_shape-out : {K V A : Type 0} (n : Node K V A) → node_shape n ≡ fork (out-Node K V A n).colour (shape (out-Node K V A n).left) (out-Node K V A n).entry (shape (out-Node K V A n).right)
unfolding out-Node denote.Hole.Carrier.out
node_shape-out (Node' None' entry None' colour) = refl
node_shape-out (Node' (Some' p m) entry None' colour) = refl
node_shape-out (Node' None' entry (Some' q n) colour) = refl
node_shape-out (Node' (Some' p m) entry (Some' q n) colour) = refl

-- a node that is made of its parts
pub node_shape-roll : {K V A : Type 0} (right : Option (Box (Node K V A) A)) (entry : Entry K V A) (left : Option (Box (Node K V A) A)) (colour : Colour) → node_shape (roll-Node K V A (record { right = right; entry = entry; left = left; colour = colour })) ≡ fork colour (shape left) entry (shape right)
unfolding roll-Node denote.Hole.Carrier.roll
node_shape-roll None entry None colour = refl
node_shape-roll (Some b) entry None colour = refl
node_shape-roll None entry (Some d) colour = refl
node_shape-roll (Some b) entry (Some d) colour = refl

-- the link leads to the node n
pub shape_at : {K V A : Type 0} {l : Option (Box (Node K V A) A)} {b : Box (Node K V A) A} {n : Node K V A} → l ≡ Some b → n ≡ b.value → shape l ≡ fork (out-Node K V A n).colour (shape (out-Node K V A n).left) (out-Node K V A n).entry (shape (out-Node K V A n).right)
shape_at {K} {V} {A} {l} {b} {n} e f = ap shape e ∙ ap node_shape (sym f) ∙ node_shape-out n

-- the tree below a node has an entry
pub node_some : {K V A : Type 0} (n : Node K V A) → 0 < length (inorder (node_shape n))
node_some {K} {V} {A} n = rw (node_shape-out n) (omega (arith, length-append (inorder (shape (out-Node K V A n).left)) ((out-Node K V A n).entry ∷ inorder (shape (out-Node K V A n).right))))

-- the link leads to the node that n lends
pub shape_from_at : {K V A : Type 0} {l : Option (Bor (Node K V A))} {n : Bor (Node K V A)} → l ≡ Some n → shape_from l ≡ fork (out-Node K V A n.now).colour (shape (out-Node K V A n.now).left) (out-Node K V A n.now).entry (shape (out-Node K V A n.now).right)
shape_from_at {K} {V} {A} {l} {n} e = ap shape_from e ∙ node_shape-out n.now

-- and t is left of it, or right of it
pub step_to_left : {K V A : Type 0} {l : Option (Bor (Node K V A))} {n : Bor (Node K V A)} {t : Tree (Entry K V A)} → l ≡ Some n → t ≡ shape (out-Node K V A n.now).left → shape_from l ≡ fork (out-Node K V A n.now).colour t (out-Node K V A n.now).entry (shape (out-Node K V A n.now).right)
step_to_left {K} {V} {A} {l} {n} {t} e f = shape_from_at e ∙ ap (λ u. fork (out-Node K V A n.now).colour u (out-Node K V A n.now).entry (shape (out-Node K V A n.now).right)) (sym f)

pub step_to_right : {K V A : Type 0} {l : Option (Bor (Node K V A))} {n : Bor (Node K V A)} {t : Tree (Entry K V A)} → l ≡ Some n → t ≡ shape (out-Node K V A n.now).right → shape_from l ≡ fork (out-Node K V A n.now).colour (shape (out-Node K V A n.now).left) (out-Node K V A n.now).entry t
step_to_right {K} {V} {A} {l} {n} {t} e f = shape_from_at e ∙ ap (λ u. fork (out-Node K V A n.now).colour (shape (out-Node K V A n.now).left) (out-Node K V A n.now).entry u) (sym f)

-- what is known of a fork in the order
module _ {K V A : Type 0} {cmp : K → K → Ordering} (o : IsTotalOrder cmp) (h : ℕ) (k : K) (l : List (Entry K V A)) (e : Entry K V A) (r : List (Entry K V A)) (up : IsAscending cmp (l ++ e ∷ r)) where
  pub past_right : is_gt (place_cmp cmp h k e) ≡ false → AllPast cmp h k r
  past_right n = past_rest o h k e r (sorted_back (entry_cmp cmp) l (e ∷ r) up) n

  pub before_left : is_lt (place_cmp cmp h k e) ≡ false → AllBefore cmp h k l
  before_left n = sides.before_front (entry_cmp cmp) (place_cmp cmp h k) (place o h k) l e r up n

  pub found_here : place_cmp cmp h k e ≡ Equal → entry_at cmp h k (l ++ e ∷ r) ≡ Some e
  found_here q = entry_at-front cmp h k l (e ∷ r) (before_left (ap is_lt q)) ∙ ap (λ c. cond (is_eq c) (Some e) (entry_at cmp h k r)) q

  pub found_left : place_cmp cmp h k e ≡ Less → entry_at cmp h k (l ++ e ∷ r) ≡ entry_at cmp h k l
  found_left q = entry_at-back cmp h k l (e ∷ r) (q, past_right (ap is_gt q))

  pub found_right : place_cmp cmp h k e ≡ Greater → entry_at cmp h k (l ++ e ∷ r) ≡ entry_at cmp h k r
  found_right q = entry_at-front cmp h k l (e ∷ r) (before_left (ap is_lt q)) ∙ ap (λ c. cond (is_eq c) (Some e) (entry_at cmp h k r)) q

pub record IsTreeStep {K V A : Type 0} (cmp : K → K → Ordering) (h : ℕ) (k : K) (t u : Tree (Entry K V A)) : Type 0 where
  pub ascending : IsAscending cmp (inorder u)
  pub found : entry_at cmp h k (inorder u) ≡ entry_at cmp h k (inorder t)
  pub visits : length (tree_way cmp h k u) + 1 ≡ length (tree_way cmp h k t)
  pub shorter : length (inorder u) + 1 ≤ length (inorder t)

module _ {K V A : Type 0} {cmp : K → K → Ordering} (o : IsTotalOrder cmp) (h : ℕ) (k : K) (c : Colour) (l : Tree (Entry K V A)) (e : Entry K V A) (r t : Tree (Entry K V A)) (is : t ≡ fork c l e r) (up : IsAscending cmp (inorder t)) where
  pub step_left : place_cmp cmp h k e ≡ Less → IsTreeStep cmp h k t l
  step_left q =
      let up' = rw is at up in
      let way : tree_way cmp h k (fork c l e r) ≡ e ∷ tree_way cmp h k l = ap (λ x. e ∷ match_ordering x (tree_way cmp h k l) [] (tree_way cmp h k r)) q in
      rw is (record { ascending = sorted_front (entry_cmp cmp) (inorder l) (e ∷ inorder r) up'; found = sym (found_left o h k (inorder l) e (inorder r) up' q); visits = omega (arith, ap length way); shorter = omega (arith, length-append (inorder l) (e ∷ inorder r)) })

  pub step_right : place_cmp cmp h k e ≡ Greater → IsTreeStep cmp h k t r
  step_right q =
      let up' = rw is at up in
      let way : tree_way cmp h k (fork c l e r) ≡ e ∷ tree_way cmp h k r = ap (λ x. e ∷ match_ordering x (tree_way cmp h k l) [] (tree_way cmp h k r)) q in
      rw is (record { ascending = sides.sorted_tail (entry_cmp cmp) e (inorder r) (sorted_back (entry_cmp cmp) (inorder l) (e ∷ inorder r) up'); found = sym (found_right o h k (inorder l) e (inorder r) up' q); visits = omega (arith, ap length way); shorter = omega (arith, length-append (inorder l) (e ∷ inorder r)) })

  pub found_root : place_cmp cmp h k e ≡ Equal → entry_at cmp h k (inorder t) ≡ Some e
  found_root q = rw is (found_here o h k (inorder l) e (inorder r) (rw is at up) q)

-- the first entry past a bound, in a fork
module _ {K V A : Type 0} (cmp : K → K → Ordering) (b : Option (ℕ × K)) (l : List (Entry K V A)) (e : Entry K V A) (r : List (Entry K V A)) where
  pub next_left : is_past_bound cmp b e ≡ true → (p : Option (Entry K V A)) → option_or (first_past cmp b (l ++ e ∷ r)) p ≡ option_or (first_past cmp b l) (Some e)
  next_left q p =
      let at = find-append (is_past_bound cmp b) l (e ∷ r) ∙ ap (λ t. option_or (first_past cmp b l) (cond t (Some e) (first_past cmp b r))) q in
      ap (λ t. option_or t p) at ∙ or_again (first_past cmp b l) e p

pub next_right : {K V A : Type 0} {cmp : K → K → Ordering} (o : IsTotalOrder cmp) (b : Option (ℕ × K)) (l : List (Entry K V A)) (e : Entry K V A) (r : List (Entry K V A)) → IsAscending cmp (l ++ e ∷ r) → is_past_bound cmp b e ≡ false → first_past cmp b (l ++ e ∷ r) ≡ first_past cmp b r
next_right o None l e r up q = cc
next_right {K} {V} {A} {cmp} o (Some b) l e r up q = first_past-front cmp b.0 b.1 l (e ∷ r) (before_left o b.0 b.1 l e r up q) ∙ ap (λ t. cond t (Some e) (first_past cmp (Some b) r)) q
