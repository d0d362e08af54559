-- A table's pairs in its order are those of its map, each once.
use Rattle.std.proofs.Common.{◌≡◌, ℕ, zero, suc, ◌+◌, ◌<◌, ◌≤◌, get_or, Bool, true, false, cond, List, [], ◌∷◌, ◌++◌, length, map, None, option_map, refl, sym, ap, ◌∙◌, subst, zero-add, arith, Ordering, Less, Equal, Greater}
use Rattle.std.specs.Ordering.{is_eq}
use Rattle.std.specs.Cmp.{IsTotalOrder}
use Rattle.std.specs.Map.{keys_of}
use Rattle.std.specs.List.{AllByRecursion}
use Rattle.std.proofs.lemmas.List.{length-append, length-map}
use Rattle.std.proofs.lemmas.List.Sums.{sum_by-append}
use Rattle.std.proofs.lemmas.Bool.Decides.{nat_tests}
use Rattle.std.specs.Prelude.{◌==◌, count_by}
use Rattle.std.specs.List.Sorted.{IsPermutation}
use Rattle.std.proofs.lemmas.List.Sorted.{IsPermutation-refl, IsPermutation-sym, IsPermutation-cons, IsPermutation-trans, IsPermutation-middle, length_permutation, sum_by-IsPermutation}
use Rattle.std.proofs.lemmas.Map.Keys.{sorted_head, sorted_tail}
use Rattle.flurry_base.specs.FiniteMap.{IsFiniteMap, pair_at, with_pair, map_of_pairs}
use Rattle.flurry_base.specs.HashOrder.{hash_then_key}
use Rattle.flurry_seq.specs.Table.{bin_of, bin_at}
use Rattle.flurry_base.proofs.FiniteMapLaws.{pair_at-map_of_pairs, without_none}
use Rattle.flurry_seq.specs.Table.{pair_of, all_pairs}
use Rattle.flurry_seq.specs.Apart.{AreApart}
use Rattle.flurry_seq.specs.Invariant.{AreBinsFrom, IsTable}
use Rattle.flurry_seq.proofs.TableLemmas.{at_here, none_from}

none_of : (b : Bool) → ◌≡◌ {A = ℕ} 0 (cond b 0 0)
none_of true = refl
none_of false = refl

count_cons : {X : Type 0} (p : X → Bool) (x : X) (xs : List X) → count_by p (x ∷ xs) ≡ cond (p x) 1 0 + count_by p xs
count_cons p x xs = sum_by-append (λ y. cond (p y) 1 0) (x ∷ []) xs ∙ ap (λ n. n + count_by p xs) (zero-add (cond (p x) 1 0))

one_more : (b : Bool) (n : ℕ) → cond b 1 0 + cond b n 0 ≡ cond b (suc n) 0
one_more true n = omega arith
one_more false n = refl

module _ {K V : Type 0} {cmp : K → K → Ordering} (o : IsTotalOrder cmp) where
  -- a new pair is one more
  with_new : (m : List (K × V)) (k : K) (v : V) → pair_at cmp m k ≡ None → IsPermutation ((k, v) ∷ m) (with_pair cmp m k v)
  with_new [] k v none = IsPermutation-refl _
  with_new (e ∷ m) k v none = by_order (cmp k e.0) refl (with_new m k v)
    where
      by_order : (r : Ordering) → cmp k e.0 ≡ r → (pair_at cmp m k ≡ None → IsPermutation ((k, v) ∷ m) (with_pair cmp m k v)) → IsPermutation ((k, v) ∷ e ∷ m) (with_pair cmp (e ∷ m) k v)
      by_order Less p ih = rw p (IsPermutation-refl _)
      by_order Equal p ih = let x = rw p at none in cc
      by_order Greater p ih =
          let x = rw p at none in
          rw p (IsPermutation-trans _ _ _ (IsPermutation-sym _ _ (IsPermutation-middle (e ∷ []) (k, v) m)) (IsPermutation-cons e _ _ (ih x)))

  pub gathered_permutes : (ps : List (K × V)) → AreApart cmp ps → IsPermutation ps (map_of_pairs cmp ps)
  gathered_permutes [] h = IsPermutation-refl _
  gathered_permutes (p ∷ ps) h =
      let none : pair_at cmp (map_of_pairs cmp ps) p.0 ≡ None = pair_at-map_of_pairs o ps p.0 ∙ h.0 in
      rw (without_none cmp p.0 (map_of_pairs cmp ps) none)
      (IsPermutation-trans _ _ _ (IsPermutation-cons p _ _ (gathered_permutes ps h.1)) (with_new (map_of_pairs cmp ps) p.0 p.1 none))

  apart-append : (xs ys : List (K × V)) → AreApart cmp xs → AreApart cmp ys → AllByRecursion (λ p. pair_at cmp ys p.0 ≡ None) xs → AreApart cmp (xs ++ ys)
  apart-append [] ys h k none = k
  apart-append (p ∷ xs) ys h k none = (pair_at-append xs ys p.0 h.0 none.0, apart-append xs ys h.1 k none.1)
    where
      pair_at-append : (xs ys : List (K × V)) (q : K) → pair_at cmp xs q ≡ None → pair_at cmp ys q ≡ None → pair_at cmp (xs ++ ys) q ≡ None
      pair_at-append [] ys q h k = k
      pair_at-append (x ∷ xs) ys q h k = by_test (is_eq (cmp q x.0)) refl (pair_at-append xs ys q)
        where
          by_test : (t : Bool) → is_eq (cmp q x.0) ≡ t → (pair_at cmp xs q ≡ None → pair_at cmp ys q ≡ None → pair_at cmp (xs ++ ys) q ≡ None) → pair_at cmp (x ∷ (xs ++ ys)) q ≡ None
          by_test true p ih = let y = rw p at h in cc
          by_test false p ih = let y = rw p at h in rw p (ih y k)

module _ {K V : Type 0} {cmp : K → K → Ordering} (o : IsTotalOrder cmp) (hash : K → ℕ) (respects : (a b : K) → cmp a b ≡ Equal → hash a ≡ hash b) where
  bin_apart : (n i : ℕ) (b : List ((ℕ × K) × V)) → IsFiniteMap (hash_then_key cmp) b → AllByRecursion (λ e. (e.0.0 ≡ hash e.0.1) × (bin_of n e.0.0 ≡ i)) b → AreApart cmp (map pair_of b)
  bin_apart n i [] s h = tt
  bin_apart n i (e ∷ b) s h =
      let below = sorted_head (hash_then_key cmp) e.0 (keys_of b) s in
      let none : pair_at (hash_then_key cmp) b (hash e.0.1, e.0.1) ≡ None = subst (λ x. pair_at (hash_then_key cmp) b (x, e.0.1) ≡ None) h.0.0 (pair_at_below_slot b e.0 below) in
      (at_here o hash respects n i b e.0.1 h.1 ∙ ap (option_map pair_of) none, bin_apart n i b (sorted_tail (hash_then_key cmp) e.0 (keys_of b) s) h.1)
    where
      pair_at_below_slot : (b : List ((ℕ × K) × V)) (q : ℕ × K) → AllByRecursion (λ x. hash_then_key cmp q x ≡ Less) (keys_of b) → pair_at (hash_then_key cmp) b q ≡ None
      pair_at_below_slot [] q h = refl
      pair_at_below_slot (e ∷ b) q h = rw h.0 (pair_at_below_slot b q h.1)

  none_after : (n i : ℕ) (b : List ((ℕ × K) × V)) (bins : List (List ((ℕ × K) × V))) → AllByRecursion (λ e. (e.0.0 ≡ hash e.0.1) × (bin_of n e.0.0 ≡ i)) b → AreBinsFrom cmp hash n (suc i) bins
      → AllByRecursion (λ p. pair_at cmp (all_pairs bins) p.0 ≡ None) (map pair_of b)
  none_after n i [] bins h k = tt
  none_after n i (e ∷ b) bins h k =
      let here : bin_of n (hash e.0.1) ≡ i = ap (bin_of n) (sym h.0.0) ∙ h.0.1 in
      (none_from o hash respects n (suc i) bins e.0.1 k (omega arith), none_after n i b bins h.1 k)

  pub all_apart : (n i : ℕ) (bins : List (List ((ℕ × K) × V))) → AreBinsFrom cmp hash n i bins → AreApart cmp (all_pairs bins)
  all_apart n i [] h = tt
  all_apart n i (b ∷ bins) h =
      apart-append o (map pair_of b) (all_pairs bins) (bin_apart n i b h.0.ascends h.0.placed) (all_apart n (suc i) bins h.1) (none_after n i b bins h.0.placed h.1)

  pub pairs_permute : (bins : List (List ((ℕ × K) × V))) → AreBinsFrom cmp hash (length bins) 0 bins → IsPermutation (map_of_pairs cmp (all_pairs bins)) (all_pairs bins)
  pairs_permute bins h = IsPermutation-sym _ _ (gathered_permutes o (all_pairs bins) (all_apart (length bins) 0 bins h))

  -- no bin is longer than the map
  pub bin_short : (bins : List (List ((ℕ × K) × V))) (len h : ℕ) → IsTable cmp hash bins len → length (bin_at bins h) ≤ len
  bin_short bins len h t = omega (arith, t.count, length_permutation (map_of_pairs cmp (all_pairs bins)) (all_pairs bins) (pairs_permute bins t.placed), bin_within bins (bin_of (length bins) h))
    where
      bin_within : (bins : List (List ((ℕ × K) × V))) (i : ℕ) → length (get_or bins i []) ≤ length (all_pairs bins)
      bin_within [] i = omega arith
      bin_within (b ∷ bins) zero = rw (length-append, length-map) (omega arith)
      bin_within (b ∷ bins) (suc i) = rw (length-append) (omega (arith, bin_within bins i))

  -- how many pairs of a bin, and of the bins from one on, have a hash whose bin is the t-th
  in_bin : (n i t : ℕ) (b : List ((ℕ × K) × V)) → AllByRecursion (λ e. (e.0.0 ≡ hash e.0.1) × (bin_of n e.0.0 ≡ i)) b
      → count_by (λ (p : K × V). bin_of n (hash p.0) == t) (map pair_of b) ≡ cond (i == t) (length b) 0
  in_bin n i t [] h = none_of (i == t)
  in_bin n i t (e ∷ b) h =
      let here : (bin_of n (hash e.0.1) == t) ≡ (i == t) = ap (λ x. x == t) (ap (bin_of n) (sym h.0.0) ∙ h.0.1) in
      count_cons (λ (p : K × V). bin_of n (hash p.0) == t) (pair_of e) (map pair_of b)
      ∙ ap (λ x. cond x 1 0 + count_by (λ (p : K × V). bin_of n (hash p.0) == t) (map pair_of b)) here ∙ ap (λ n. cond (i == t) 1 0 + n) (in_bin n i t b h.1) ∙ one_more (i == t) (length b)

  none_below : (n i t : ℕ) (bins : List (List ((ℕ × K) × V))) → AreBinsFrom cmp hash n i bins → t < i → count_by (λ (p : K × V). bin_of n (hash p.0) == t) (all_pairs bins) ≡ 0
  none_below n i t [] h lt = refl
  none_below n i t (b ∷ bins) h lt =
      let other : (i == t) ≡ false = grind (arith, nat_tests) in
      sum_by-append _ (map pair_of b) (all_pairs bins) ∙ rw (in_bin n i t b h.0.placed, none_below n (suc i) t bins h.1 (omega arith), other) refl

  count_from : (n i p t : ℕ) (bins : List (List ((ℕ × K) × V))) → AreBinsFrom cmp hash n i bins → t ≡ i + p → count_by (λ (q : K × V). bin_of n (hash q.0) == t) (all_pairs bins) ≡ length (get_or bins p [])
  count_from n i p t [] h e = refl
  count_from n i zero t (b ∷ bins) h e =
      let same : (i == t) ≡ true = grind (arith, nat_tests) in
      sum_by-append _ (map pair_of b) (all_pairs bins) ∙ rw (in_bin n i t b h.0.placed, none_below n (suc i) t bins h.1 (omega arith), same) (omega arith)
  count_from n i (suc p) t (b ∷ bins) h e =
      let other : (i == t) ≡ false = grind (arith, nat_tests) in
      sum_by-append _ (map pair_of b) (all_pairs bins) ∙ rw (in_bin n i t b h.0.placed, count_from n (suc i) p t bins h.1 (omega arith), other) (omega arith)

  -- a bin has the pairs whose hash has its place
  pub count_at : (bins : List (List ((ℕ × K) × V))) (h : ℕ) → AreBinsFrom cmp hash (length bins) 0 bins
      → length (bin_at bins h) ≡ count_by (λ (p : K × V). bin_of (length bins) (hash p.0) == bin_of (length bins) h) (map_of_pairs cmp (all_pairs bins))
  count_at bins h placed =
      sym (count_from (length bins) 0 (bin_of (length bins) h) (bin_of (length bins) h) bins placed (omega arith))
      ∙ sum_by-IsPermutation _ (map_of_pairs cmp (all_pairs bins)) (all_pairs bins) (pairs_permute bins placed)
