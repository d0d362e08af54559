-- Two ascending lists of the same elements are one list.
use Rattle.std.proofs.Common.{◌≡◌, ℕ, suc, Bool, true, false, cond, List, [], ◌∷◌, Some, refl, sym, ap, ◌∙◌, add-one, arith, Ordering, Less, Equal, Greater}
use Rattle.std.specs.Ordering.{is_eq, is_lt}
use Rattle.std.specs.Cmp.{IsTotalOrder, tied_itself}
use Rattle.std.specs.List.{AllByRecursion, find, count_by}
use Rattle.std.specs.List.Sorted.{IsStrictlySortedBy, IsPermutation, IsSorted, IsSortedByKey}
use Rattle.std.specs.Map.{keys_of}
use Rattle.std.proofs.lemmas.Cmp.{alike_right, on_total}
use Rattle.std.proofs.lemmas.List.Elements.{All-from_recursion, recursion_from_All}
use Rattle.std.proofs.lemmas.List.Sorted.{All-permutation, sum_by-IsPermutation, sorted_far, ranks_by}
use Rattle.std.proofs.lemmas.List.Sums.{sum_by-cons}
use Rattle.flurry_base.specs.FiniteMap.{IsFiniteMap}
use Rattle.flurry_base.proofs.FiniteMapLaws.{IsFiniteMap-nil, below_all, turned}
use Rattle.flurry_base.proofs.ListParts.{all_map, find_lost, sorted_cons, sorted_head, sorted_nil, sorted_tail}
use native.Mathlib.Numerals.{unary_clauses}

one_or_none : (b : Bool) → ◌≡◌ {A = ℕ} (cond b 1 0) 0 → b ≡ false
one_or_none true h = absurd (omega arith)
one_or_none false h = refl

module _ {X : Type 0} {R : X → X → Ordering} (o : IsTotalOrder R) where
  -- the first of a list in order is the least
  least_first : (x : X) (xs : List X) → IsSorted R (x ∷ xs) → AllByRecursion (λ y. is_lt (R y x) ≡ false) xs
  least_first x xs up =
      recursion_from_All _ xs (λ k d below. sorted_far (λ a b. is_lt (R a b)) (ranks_by o (λ (z : X). z)) (x ∷ xs) up 0 (suc k) d (omega arith) (omega arith))

  rest_in_order : (x : X) (xs : List X) → IsSorted R (x ∷ xs) → IsSorted R xs
  rest_in_order x xs up = λ k d low high. rw add-one (simp unary_clauses at (up (suc k) d (omega arith) (omega arith)))

  none_counted : (x : X) (ys : List X) → AllByRecursion (λ y. R x y ≡ Less) ys → count_by (λ y. is_eq (R x y)) ys ≡ 0
  none_counted x [] h = refl
  none_counted x (y ∷ ys) h = sum_by-cons (λ z. cond (is_eq (R x z)) 1 0) y ys ∙ rw h.0 (omega (arith, none_counted x ys h.1))

  first_counted : (y : X) (m : List X) → IsStrictlySortedBy R (y ∷ m) → count_by (λ z. is_eq (R y z)) (y ∷ m) ≡ 1
  first_counted y m s = sum_by-cons (λ z. cond (is_eq (R y z)) 1 0) y m ∙ rw (tied_itself o y) (omega (arith, none_counted y m (sorted_head R y m s)))

  none_alike : (x : X) (ys : List X) → count_by (λ y. is_eq (R x y)) ys ≡ 0 → AllByRecursion (λ y. is_eq (R x y) ≡ false) ys
  none_alike x [] h = tt
  none_alike x (y ∷ ys) h =
      let e = sum_by-cons (λ z. cond (is_eq (R x z)) 1 0) y ys in
      (one_or_none (is_eq (R x y)) (omega arith), none_alike x ys (omega arith))

  -- what is less than the first is less than all
  below_first : (y x : X) (xs : List X) → R y x ≡ Less → AllByRecursion (λ z. is_lt (R z x) ≡ false) xs → AllByRecursion (λ z. R y z ≡ Less) xs
  below_first y x [] p h = tt
  below_first y x (z ∷ xs) p h = (by_order (R x z) refl, below_first y x xs p h.1)
    where
      by_order : (r : Ordering) → R x z ≡ r → R y z ≡ Less
      by_order Less e = o.trans y x z p e
      by_order Equal e = sym (alike_right o x z y e) ∙ p
      by_order Greater e = let l = turned o x z e in let n = rw l at h.0 in cc

  -- in a list in strict order each element is found at its class
  each_found : (m : List X) → IsStrictlySortedBy R m → AllByRecursion (λ x. find (λ y. is_eq (R x y)) m ≡ Some x) m
  each_found [] s = tt
  each_found (y ∷ m) s = (rw (tied_itself o y) refl, behind m (sorted_head R y m s) (each_found m (sorted_tail R y m s)))
    where
      behind : (zs : List X) → AllByRecursion (λ z. R y z ≡ Less) zs → AllByRecursion (λ x. find (λ y. is_eq (R x y)) m ≡ Some x) zs → AllByRecursion (λ x. find (λ y. is_eq (R x y)) (y ∷ m) ≡ Some x) zs
      behind [] h k = tt
      behind (z ∷ zs) h k = (rw (o.antisymm z y, h.0) k.0, behind zs h.1 k.1)

  found_behind : (y : X) (m zs : List X) → AllByRecursion (λ z. is_eq (R y z) ≡ false) zs → AllByRecursion (λ x. find (λ y. is_eq (R x y)) (y ∷ m) ≡ Some x) zs → AllByRecursion (λ x. find (λ y. is_eq (R x y)) m ≡ Some x) zs
  found_behind y m [] h k = tt
  found_behind y m (z ∷ zs) h k = (other (R y z) refl, found_behind y m zs h.1 k.1)
    where
      other : (r : Ordering) → R y z ≡ r → find (λ y. is_eq (R z y)) m ≡ Some z
      other Less e = rw (o.antisymm z y, e) at k.0
      other Equal e = let n = rw e at h.0 in cc
      other Greater e = rw (o.antisymm z y, e) at k.0

  same_in_order : (m xs : List X) → IsStrictlySortedBy R m → IsSorted R xs → ((x : X) → count_by (λ y. is_eq (R x y)) xs ≡ count_by (λ y. is_eq (R x y)) m)
      → AllByRecursion (λ x. find (λ y. is_eq (R x y)) m ≡ Some x) xs → xs ≡ m
  same_in_order [] [] s up count found = refl
  same_in_order [] (x ∷ xs) s up count found = let f = found.0 in cc
  same_in_order (y ∷ m) [] s up count found = absurd (omega (arith, count y, first_counted y m s))
  same_in_order (y ∷ m) (x ∷ xs) s up count found = by_order (R x y) refl (same_in_order m xs (sorted_tail R y m s) (rest_in_order x xs up))
    where
      by_order : (r : Ordering) → R x y ≡ r
          → (((z : X) → count_by (λ w. is_eq (R z w)) xs ≡ count_by (λ w. is_eq (R z w)) m) → AllByRecursion (λ z. find (λ w. is_eq (R z w)) m ≡ Some z) xs → xs ≡ m)
          → x ∷ xs ≡ y ∷ m
      by_order Less p ih =
          let f = rw p at found.0 in
          let none = find_lost (λ z. is_eq (R x z)) m (all_map (λ z. R x z ≡ Less) (λ z. is_eq (R x z) ≡ false) (λ z l. ap is_eq l) m (below_all o x y m p (sorted_head R y m s))) in
          cc
      by_order Greater p ih =
          let less = turned o x y p in
          let none = none_counted y (x ∷ xs) (less, below_first y x xs less (least_first x xs up)) in
          absurd (omega (arith, count y, first_counted y m s))
      by_order Equal p ih =
          let at : Some y ≡ Some x = rw p at found.0 in
          let one : x ≡ y = cc in
          let less : (z : X) → count_by (λ w. is_eq (R z w)) xs ≡ count_by (λ w. is_eq (R z w)) m =
          λ z. let a = sum_by-cons (λ w. cond (is_eq (R z w)) 1 0) x xs in let b = sum_by-cons (λ w. cond (is_eq (R z w)) 1 0) y m in let e : ◌≡◌ {A = ℕ} (cond (is_eq (R z x)) 1 0) (cond (is_eq (R z y)) 1 0) = ap (λ w. cond (is_eq (R z w)) 1 0) one in omega (arith, count z) in
          let tails = ih less (found_behind y m xs (none_alike y xs (less y ∙ none_counted y m (sorted_head R y m s))) found.1) in
          cc

  -- a list in strict order, and another one in order of the same elements
  pub same_as_permuted : (m xs : List X) → IsStrictlySortedBy R m → IsPermutation m xs → IsSorted R xs → xs ≡ m
  same_as_permuted m xs s h up =
      same_in_order m xs s up (λ x. sum_by-IsPermutation (λ y. cond (is_eq (R x y)) 1 0) m xs h)
      (recursion_from_All Found xs (All-permutation Found m xs h (All-from_recursion Found m (each_found m s))))
    where
      Found : X → Type 0
      Found x = find (λ y. is_eq (R x y)) m ≡ Some x

-- pairs whose keys ascend
pub keys_ascend : {K V : Type 0} (cmp : K → K → Ordering) (m : List (K × V)) → IsStrictlySortedBy (λ (p q : K × V). cmp p.0 q.0) m → IsFiniteMap cmp m
keys_ascend {V = V} cmp [] s = IsFiniteMap-nil V cmp
keys_ascend {K} {V} cmp (p ∷ m) s = sorted_cons cmp p.0 (keys_of m) (below m (sorted_head _ p m s)) (keys_ascend cmp m (sorted_tail _ p m s))
  where
    below : (m : List (K × V)) → AllByRecursion (λ (q : K × V). cmp p.0 q.0 ≡ Less) m → AllByRecursion (λ k. cmp p.0 k ≡ Less) (keys_of m)
    below [] h = tt
    below (q ∷ m) h = (h.0, below m h.1)

-- the same of pairs in the order of their keys
pub same_pairs : {K V : Type 0} {cmp : K → K → Ordering} → IsTotalOrder cmp → (m ps : List (K × V)) → IsFiniteMap cmp m → IsPermutation m ps → IsSortedByKey (λ (p : K × V). p.0) cmp ps → ps ≡ m
same_pairs {K} {V} {cmp} o m ps s h up = same_as_permuted (on_total (λ (p : K × V). p.0) o) m ps (by_pairs m s) h up
  where
    below : (p : K × V) (m : List (K × V)) → AllByRecursion (λ k. cmp p.0 k ≡ Less) (keys_of m) → AllByRecursion (λ (q : K × V). cmp p.0 q.0 ≡ Less) m
    below p [] h = tt
    below p (q ∷ m) h = (h.0, below p m h.1)

    by_pairs : (m : List (K × V)) → IsFiniteMap cmp m → IsStrictlySortedBy (λ (p q : K × V). cmp p.0 q.0) m
    by_pairs [] s = sorted_nil _
    by_pairs (p ∷ m) s = sorted_cons _ p m (below p m (sorted_head cmp p.0 (keys_of m) s)) (by_pairs m (sorted_tail cmp p.0 (keys_of m) s))
