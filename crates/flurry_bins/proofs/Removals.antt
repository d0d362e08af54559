-- A removal from a tree is the removal from its entries.
use Rattle.std.proofs.Common.{◌≡◌, ℕ, ◌+◌, arith, Bool, List, [], ◌∷◌, ◌++◌, length, Option, Some, None, refl, sym, ap, ◌∙◌, cond, not}
use Rattle.std.specs.Option.{is_some, option_map}
use Rattle.std.proofs.lemmas.List.Kept.{IsStrictlySortedBy-filter}
use Rattle.std.specs.declared.cmp.Ordering.{Ordering}
use Rattle.std.specs.declared.cmp.Ordering.TheVariants.{Less, Equal, Greater}
use Rattle.std.specs.Ordering.{is_lt, is_gt, is_eq, match_ordering}
use Rattle.std.specs.Cmp.{IsTotalOrder}
use Rattle.flurry_bins.specs.declared.bin.entry.Entry.{Entry}
use Rattle.flurry_bins.specs.declared.bin.node.Colour.{Colour}
use Rattle.flurry_bins.specs.Entries.{place_cmp, entry_cmp, IsAscending, entry_at, is_at, without}
use Rattle.flurry_bins.specs.Tree.{Tree, leaf, fork, inorder, redness, root_redness, black_height, IsRedBlack}
use Rattle.flurry_bins.specs.Removal.{tree_removal, tree_entry, settled_left, settled_right, join_of}
use Rattle.flurry_base.proofs.ListParts.{sorted_tail, sorted_front, sorted_back}
use Rattle.flurry_bins.proofs.Places.{AllPast, without-back, without-front, entry_at-back}
use Rattle.flurry_bins.proofs.Edits.{taken_there}
use Rattle.flurry_bins.proofs.Trees.{found_here, found_left, found_right, past_right, before_left}
use Rattle.flurry_bins.proofs.Shortness.{one_if, IsFixed, settled_left-ok, settled_right-ok, join_of-ok, inorder-settled_left, inorder-settled_right, inorder-join_of}

module _ {K V A : Type 0} (cmp : K → K → Ordering) (h : ℕ) (k : K) where
  fixed_by : (c : Colour) (l : Tree (Entry K V A)) (e : Entry K V A) (r : Tree (Entry K V A)) (s : Ordering) → IsRedBlack (fork c l e r) → IsFixed (black_height l) (root_redness l) (tree_removal cmp h k l) → IsFixed (black_height r) (root_redness r) (tree_removal cmp h k r)
      → IsFixed (black_height (fork c l e r)) (redness c) (match_ordering s (settled_left (tree_removal cmp h k l).1 c (tree_removal cmp h k l).0 e r) (join_of c l r) (settled_right (tree_removal cmp h k r).1 c l e (tree_removal cmp h k r).0))
  fixed_by c l e r Less b p q = settled_left-ok c l e r (tree_removal cmp h k l).0 (tree_removal cmp h k l).1 b p
  fixed_by c l e r Equal b p q = join_of-ok c l e r b
  fixed_by c l e r Greater b p q = settled_right-ok c l e r (tree_removal cmp h k r).0 (tree_removal cmp h k r).1 b q

  pub tree_removal-ok : (t : Tree (Entry K V A)) → IsRedBlack t → IsFixed (black_height t) (root_redness t) (tree_removal cmp h k t)
  tree_removal-ok leaf b = record { balanced = tt; as_high = refl; as_red = omega arith; full_if_red = omega arith }
  tree_removal-ok (fork c l e r) b = fixed_by c l e r (place_cmp cmp h k e) b (tree_removal-ok l b.0) (tree_removal-ok r b.1.0)

module _ {K V A : Type 0} {cmp : K → K → Ordering} (o : IsTotalOrder cmp) (h : ℕ) (k : K) where
  without_by : (c : Colour) (l : Tree (Entry K V A)) (e : Entry K V A) (r : Tree (Entry K V A)) (s : Ordering) → place_cmp cmp h k e ≡ s → IsAscending cmp (inorder l ++ e ∷ inorder r)
      → inorder (tree_removal cmp h k l).0 ≡ without cmp h k (inorder l) → inorder (tree_removal cmp h k r).0 ≡ without cmp h k (inorder r)
      → inorder (match_ordering s (settled_left (tree_removal cmp h k l).1 c (tree_removal cmp h k l).0 e r) (join_of c l r) (settled_right (tree_removal cmp h k r).1 c l e (tree_removal cmp h k r).0)).0 ≡ without cmp h k (inorder l ++ e ∷ inorder r)
  without_by c l e r Less q up left right =
      inorder-settled_left (tree_removal cmp h k l).1 c (tree_removal cmp h k l).0 e r ∙ ap (λ t. t ++ e ∷ inorder r) left
      ∙ sym (without-back cmp h k (inorder l) (e ∷ inorder r) (q, past_right o h k (inorder l) e (inorder r) up (ap is_gt q)))
  without_by c l e r Equal q up left right =
      inorder-join_of c l r ∙ sym (taken_there o h k (inorder l) (before_left o h k (inorder l) e (inorder r) up (ap is_lt q)) e (inorder r) up (ap is_eq q))
  without_by c l e r Greater q up left right =
      let front = without-front cmp h k (inorder l) (e ∷ inorder r) (before_left o h k (inorder l) e (inorder r) up (ap is_lt q)) in
      let here = ap (λ t. inorder l ++ cond (not (is_eq t)) (e ∷ without cmp h k (inorder r)) (without cmp h k (inorder r))) q in
      inorder-settled_right (tree_removal cmp h k r).1 c l e (tree_removal cmp h k r).0 ∙ ap (λ t. inorder l ++ e ∷ t) right ∙ sym (front ∙ here)

  pub inorder-tree_removal : (t : Tree (Entry K V A)) → IsAscending cmp (inorder t) → inorder (tree_removal cmp h k t).0 ≡ without cmp h k (inorder t)
  inorder-tree_removal leaf up = refl
  inorder-tree_removal (fork c l e r) up =
      without_by c l e r (place_cmp cmp h k e) refl up (inorder-tree_removal l (sorted_front (entry_cmp cmp) (inorder l) (e ∷ inorder r) up)) (inorder-tree_removal r (sorted_tail (entry_cmp cmp) e (inorder r) (sorted_back (entry_cmp cmp) (inorder l) (e ∷ inorder r) up)))

  entry_by : (l : Tree (Entry K V A)) (e : Entry K V A) (r : Tree (Entry K V A)) (s : Ordering) → place_cmp cmp h k e ≡ s → IsAscending cmp (inorder l ++ e ∷ inorder r)
      → tree_entry cmp h k l ≡ entry_at cmp h k (inorder l) → tree_entry cmp h k r ≡ entry_at cmp h k (inorder r)
      → match_ordering s (tree_entry cmp h k l) (Some e) (tree_entry cmp h k r) ≡ entry_at cmp h k (inorder l ++ e ∷ inorder r)
  entry_by l e r Less q up left right = left ∙ sym (found_left o h k (inorder l) e (inorder r) up q)
  entry_by l e r Equal q up left right = sym (found_here o h k (inorder l) e (inorder r) up q)
  entry_by l e r Greater q up left right = right ∙ sym (found_right o h k (inorder l) e (inorder r) up q)

  pub tree_entry-is : (t : Tree (Entry K V A)) → IsAscending cmp (inorder t) → tree_entry cmp h k t ≡ entry_at cmp h k (inorder t)
  tree_entry-is leaf up = refl
  tree_entry-is (fork c l e r) up =
      entry_by l e r (place_cmp cmp h k e) refl up (tree_entry-is l (sorted_front (entry_cmp cmp) (inorder l) (e ∷ inorder r) up)) (tree_entry-is r (sorted_tail (entry_cmp cmp) e (inorder r) (sorted_back (entry_cmp cmp) (inorder l) (e ∷ inorder r) up)))

  -- how many entries are left
  left_by : (e : Entry K V A) (es : List (Entry K V A)) (s : Ordering) → place_cmp cmp h k e ≡ s → IsAscending cmp (e ∷ es) → length (without cmp h k es) + one_if (is_some (entry_at cmp h k es)) ≡ length es → length (without cmp h k (e ∷ es)) + one_if (is_some (entry_at cmp h k (e ∷ es))) ≡ length (e ∷ es)
  left_by e es Less q up rest =
      let past : AllPast cmp h k (e ∷ es) = (q, past_right o h k [] e es up (ap is_gt q)) in
      omega (arith, ap length (without-back cmp h k [] (e ∷ es) past), ap (λ t. one_if (is_some t)) (entry_at-back cmp h k [] (e ∷ es) past))
  left_by e es Equal q up rest = omega (arith, ap length (taken_there o h k [] tt e es up (ap is_eq q)), ap (λ t. one_if (is_some t)) (found_here o h k [] e es up q))
  left_by e es Greater q up rest =
      let kept : without cmp h k (e ∷ es) ≡ e ∷ without cmp h k es = ap (λ t. cond (not (is_eq t)) (e ∷ without cmp h k es) (without cmp h k es)) q in
      omega (arith, rest, ap length kept, ap (λ t. one_if (is_some t)) (found_right o h k [] e es up q))

  pub length-without : (es : List (Entry K V A)) → IsAscending cmp es → length (without cmp h k es) + one_if (is_some (entry_at cmp h k es)) ≡ length es
  length-without [] up = refl
  length-without (e ∷ es) up = left_by e es (place_cmp cmp h k e) refl up (length-without es (sorted_tail (entry_cmp cmp) e es up))

-- a tree after a removal
pub record IsRemoval {K V A : Type 0} (cmp : K → K → Ordering) (h : ℕ) (k : K) (t u : Tree (Entry K V A)) (got : Option (Entry K V A)) : Type 0 where
  pub found : got ≡ entry_at cmp h k (inorder t)
  pub is : inorder u ≡ without cmp h k (inorder t)
  pub ascending : IsAscending cmp (inorder u)
  pub balanced : IsRedBlack u
  pub counted : length (inorder u) + one_if (is_some got) ≡ length (inorder t)

pub removal : {K V A : Type 0} {cmp : K → K → Ordering} (o : IsTotalOrder cmp) (h : ℕ) (k : K) (t u : Tree (Entry K V A)) (s : Bool) (got : Option (Entry K V A)) → IsAscending cmp (inorder t) → IsRedBlack t → (u, s) ≡ tree_removal cmp h k t → got ≡ tree_entry cmp h k t → IsRemoval cmp h k t u got
removal {K} {V} {A} {cmp} o h k t u s got up b e f =
    let same : u ≡ (tree_removal cmp h k t).0 = ap (λ (p : Tree (Entry K V A) × Bool). p.0) e in
    let is = ap inorder same ∙ inorder-tree_removal o h k t up in
    let found = f ∙ tree_entry-is o h k t up in
    record {
      found = found;
      is = is;
      ascending = rw is (IsStrictlySortedBy-filter (entry_cmp cmp) (λ x. not (is_at cmp h k x)) (inorder t) up);
      balanced = rw same (tree_removal-ok cmp h k t b).balanced;
      counted = omega (arith, ap length is, ap (λ p. one_if (is_some p)) found, length-without o h k (inorder t) up);
    }

pub some_mapped : {X Y : Type 0} (f : X → Y) (o : Option X) → is_some (option_map f o) ≡ is_some o
some_mapped f None = refl
some_mapped f (Some x) = refl
