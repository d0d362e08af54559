-- Another value at a place keeps the order, the colours and the other entries.
use Rattle.std.proofs.Common.{◌≡◌, ℕ, arith, Bool, true, false, List, [], ◌∷◌, ◌++◌, length, Option, Some, None, refl, sym, ap, ◌∙◌, cond}
use Rattle.std.specs.List.{AllByRecursion}
use Rattle.std.specs.declared.cmp.Ordering.{Ordering}
use Rattle.std.specs.declared.cmp.Ordering.TheVariants.{Less, Equal, Greater}
use Rattle.std.specs.Ordering.{is_lt, is_gt, is_eq, match_ordering}
use Rattle.std.specs.Cmp.{IsTotalOrder}
use Rattle.std.specs.Option.{option_map, IsSome}
use Rattle.std.specs.declared.sync.Arc.{Arc}
use Rattle.flurry_bins.specs.declared.bin.entry.Entry.{Entry}
use Rattle.flurry_bins.specs.declared.bin.node.Colour.{Colour}
use Rattle.flurry_bins.specs.Entries.{place_cmp, entry_cmp, IsAscending, entry_at, is_at, with_value_at, with_value}
use Rattle.flurry_bins.specs.Tree.{Tree, leaf, fork, inorder, root_redness, black_height, IsRedBlack}
use Rattle.flurry_bins.specs.Rewrite.{tree_with_value, tree_value}
use Rattle.flurry_base.proofs.ListParts.{sorted_head, sorted_tail, sorted_cons, sorted_nil, sorted_front, sorted_back}
use Rattle.flurry_bins.proofs.Places.{with_value_at-back, with_value_at-front}
use Rattle.flurry_bins.proofs.Trees.{found_here, found_left, found_right, past_right, before_left}

module _ {K V A : Type 0} (cmp : K → K → Ordering) (h : ℕ) (k : K) (v : Arc V A) (n : ℕ) where
  same_place : (x y : Entry K V A) (a b : Bool) → entry_cmp cmp (cond a (with_value x v n) x) (cond b (with_value y v n) y) ≡ entry_cmp cmp x y
  same_place x y true true = refl
  same_place x y true false = refl
  same_place x y false true = refl
  same_place x y false false = refl

  below_all : (x : Entry K V A) (es : List (Entry K V A)) → AllByRecursion (λ y. entry_cmp cmp x y ≡ Less) es → AllByRecursion (λ y. entry_cmp cmp (cond (is_at cmp h k x) (with_value x v n) x) y ≡ Less) (with_value_at cmp h k v n es)
  below_all x [] b = tt
  below_all x (e ∷ es) b = (same_place x e (is_at cmp h k x) (is_at cmp h k e) ∙ b.0, below_all x es b.1)

  pub with_value_at-ascending : (es : List (Entry K V A)) → IsAscending cmp es → IsAscending cmp (with_value_at cmp h k v n es)
  with_value_at-ascending [] up = sorted_nil (entry_cmp cmp)
  with_value_at-ascending (e ∷ es) up = sorted_cons (entry_cmp cmp) _ (with_value_at cmp h k v n es) (below_all e es (sorted_head (entry_cmp cmp) e es up)) (with_value_at-ascending es (sorted_tail (entry_cmp cmp) e es up))

  pub length-with_value_at : (es : List (Entry K V A)) → length (with_value_at cmp h k v n es) ≡ length es
  length-with_value_at [] = refl
  length-with_value_at (e ∷ es) = omega (arith, length-with_value_at es)

  -- the colours stay
  pub record Recoloured (t u : Tree (Entry K V A)) : Type 0 where
    pub balanced : IsRedBlack u
    pub as_high : black_height u ≡ black_height t
    pub as_red : root_redness u ≡ root_redness t

  by_side : (c : Colour) (l : Tree (Entry K V A)) (e : Entry K V A) (r : Tree (Entry K V A)) (s : Ordering) → IsRedBlack (fork c l e r) → Recoloured l (tree_with_value cmp h k v n l) → Recoloured r (tree_with_value cmp h k v n r)
      → Recoloured (fork c l e r) (match_ordering s (fork c (tree_with_value cmp h k v n l) e r) (fork c l (with_value e v n) r) (fork c l e (tree_with_value cmp h k v n r)))
  by_side c l e r Less b p q = record { balanced = (p.balanced, (b.1.0, (p.as_high ∙ b.1.1.0, (rw p.as_red b.1.1.1.0, b.1.1.1.1)))); as_high = omega (arith, p.as_high); as_red = refl }
  by_side c l e r Equal b p q = record { balanced = b; as_high = refl; as_red = refl }
  by_side c l e r Greater b p q = record { balanced = (b.0, (q.balanced, (b.1.1.0 ∙ sym q.as_high, (b.1.1.1.0, rw q.as_red b.1.1.1.1)))); as_high = refl; as_red = refl }

  pub recoloured : (t : Tree (Entry K V A)) → IsRedBlack t → Recoloured t (tree_with_value cmp h k v n t)
  recoloured leaf b = record { balanced = tt; as_high = refl; as_red = refl }
  recoloured (fork c l e r) b = by_side c l e r (place_cmp cmp h k e) b (recoloured l b.0) (recoloured r b.1.0)

module _ {K V A : Type 0} {cmp : K → K → Ordering} (o : IsTotalOrder cmp) (h : ℕ) (k : K) (v : Arc V A) (n : ℕ) where
  replaced_by : (c : Colour) (l : Tree (Entry K V A)) (e : Entry K V A) (r : Tree (Entry K V A)) (s : Ordering) → place_cmp cmp h k e ≡ s → IsAscending cmp (inorder l ++ e ∷ inorder r)
      → inorder (tree_with_value cmp h k v n l) ≡ with_value_at cmp h k v n (inorder l) → inorder (tree_with_value cmp h k v n r) ≡ with_value_at cmp h k v n (inorder r)
      → inorder (match_ordering s (fork c (tree_with_value cmp h k v n l) e r) (fork c l (with_value e v n) r) (fork c l e (tree_with_value cmp h k v n r))) ≡ with_value_at cmp h k v n (inorder l ++ e ∷ inorder r)
  replaced_by c l e r Less q up left right = ap (λ t. t ++ e ∷ inorder r) left ∙ sym (with_value_at-back cmp h k (inorder l) (e ∷ inorder r) (q, past_right o h k (inorder l) e (inorder r) up (ap is_gt q)) v n)
  replaced_by c l e r Equal q up left right =
      let front = with_value_at-front cmp h k (inorder l) (e ∷ inorder r) (before_left o h k (inorder l) e (inorder r) up (ap is_lt q)) v n in
      let here = ap (λ t. inorder l ++ cond (is_eq t) (with_value e v n) e ∷ with_value_at cmp h k v n (inorder r)) q in
      let back = with_value_at-back cmp h k [] (inorder r) (past_right o h k (inorder l) e (inorder r) up (ap is_gt q)) v n in
      sym (front ∙ here ∙ ap (λ t. inorder l ++ with_value e v n ∷ t) back)
  replaced_by c l e r Greater q up left right =
      let front = with_value_at-front cmp h k (inorder l) (e ∷ inorder r) (before_left o h k (inorder l) e (inorder r) up (ap is_lt q)) v n in
      let here = ap (λ t. inorder l ++ cond (is_eq t) (with_value e v n) e ∷ with_value_at cmp h k v n (inorder r)) q in
      ap (λ t. inorder l ++ e ∷ t) right ∙ sym (front ∙ here)

  pub inorder-tree_with_value : (t : Tree (Entry K V A)) → IsAscending cmp (inorder t) → inorder (tree_with_value cmp h k v n t) ≡ with_value_at cmp h k v n (inorder t)
  inorder-tree_with_value leaf up = refl
  inorder-tree_with_value (fork c l e r) up =
      replaced_by c l e r (place_cmp cmp h k e) refl up (inorder-tree_with_value l (sorted_front (entry_cmp cmp) (inorder l) (e ∷ inorder r) up)) (inorder-tree_with_value r (sorted_tail (entry_cmp cmp) e (inorder r) (sorted_back (entry_cmp cmp) (inorder l) (e ∷ inorder r) up)))

module _ {K V A : Type 0} {cmp : K → K → Ordering} (o : IsTotalOrder cmp) (h : ℕ) (k : K) where
  value_by : (l : Tree (Entry K V A)) (e : Entry K V A) (r : Tree (Entry K V A)) (s : Ordering) → place_cmp cmp h k e ≡ s → IsAscending cmp (inorder l ++ e ∷ inorder r)
      → tree_value cmp h k l ≡ option_map (λ d. d.value) (entry_at cmp h k (inorder l)) → tree_value cmp h k r ≡ option_map (λ d. d.value) (entry_at cmp h k (inorder r))
      → match_ordering s (tree_value cmp h k l) (Some e.value) (tree_value cmp h k r) ≡ option_map (λ d. d.value) (entry_at cmp h k (inorder l ++ e ∷ inorder r))
  value_by l e r Less q up left right = left ∙ sym (ap (option_map (λ d. d.value)) (found_left o h k (inorder l) e (inorder r) up q))
  value_by l e r Equal q up left right = sym (ap (option_map (λ d. d.value)) (found_here o h k (inorder l) e (inorder r) up q))
  value_by l e r Greater q up left right = right ∙ sym (ap (option_map (λ d. d.value)) (found_right o h k (inorder l) e (inorder r) up q))

  pub tree_value-is : (t : Tree (Entry K V A)) → IsAscending cmp (inorder t) → tree_value cmp h k t ≡ option_map (λ d. d.value) (entry_at cmp h k (inorder t))
  tree_value-is leaf up = refl
  tree_value-is (fork c l e r) up =
      value_by l e r (place_cmp cmp h k e) refl up (tree_value-is l (sorted_front (entry_cmp cmp) (inorder l) (e ∷ inorder r) up)) (tree_value-is r (sorted_tail (entry_cmp cmp) e (inorder r) (sorted_back (entry_cmp cmp) (inorder l) (e ∷ inorder r) up)))

pub no_value : {X Y : Type 0} (f : X → Y) (o : Option X) → IsSome o → None ≡ option_map f o → ⊥
no_value f None s e = cc
no_value f (Some x) s e = cc
