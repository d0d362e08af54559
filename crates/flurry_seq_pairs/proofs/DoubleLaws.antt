-- Lists of pairs in which no key stands twice, and the maps of their pairs.
use Rattle.std.proofs.Common.{◌≡◌, Bool, true, false, List, [], ◌∷◌, ◌++◌, None, is_some, refl, sym, ap, ◌∙◌, Ordering, Less, Equal, Greater}
use Rattle.std.specs.Ordering.{is_eq, ordering_reverse}
use Rattle.std.specs.Cmp.{IsTotalOrder}
use Rattle.std.specs.List.{list_any}
use Rattle.std.specs.List.Sorted.{IsPermutation}
use Rattle.std.specs.Map.{keys_of}
use Rattle.std.proofs.lemmas.List.Sorted.{IsPermutation-push_more, list_any-IsPermutation}
use Rattle.std.proofs.lemmas.Map.Keys.{sorted_head, sorted_tail}
use Rattle.flurry_base.specs.FiniteMap.{IsFiniteMap, pair_at, with_pair, map_of_pairs}
use Rattle.flurry_base.proofs.FiniteMapLaws.{IsFiniteMap-map_of_pairs, pair_at_below, pair_at-map_of_pairs, same_map, without_none}
use Rattle.flurry_base.proofs.OptionLaws.{absent_is}
use Rattle.flurry_seq.specs.Apart.{AreApart}
use Rattle.flurry_seq.proofs.IterLaws.{gathered_permutes}

module _ {K V : Type 0} (cmp : K → K → Ordering) where
  found_any : (ps : List (K × V)) (k : K) → is_some (pair_at cmp ps k) ≡ list_any (λ p. is_eq (cmp k p.0)) ps
  found_any [] k = refl
  found_any (p ∷ ps) k = by_test (is_eq (cmp k p.0)) refl (found_any ps k)
    where
      by_test : (b : Bool) → is_eq (cmp k p.0) ≡ b → is_some (pair_at cmp ps k) ≡ list_any (λ p. is_eq (cmp k p.0)) ps → is_some (pair_at cmp (p ∷ ps) k) ≡ list_any (λ p. is_eq (cmp k p.0)) (p ∷ ps)
      by_test true e ih = rw e refl
      by_test false e ih = rw e ih

  -- a list and its permutation have the same classes
  pub found_permuted : (ps qs : List (K × V)) (k : K) → IsPermutation ps qs → is_some (pair_at cmp ps k) ≡ is_some (pair_at cmp qs k)
  found_permuted ps qs k h = found_any ps k ∙ list_any-IsPermutation (λ p. is_eq (cmp k p.0)) ps qs h ∙ sym (found_any qs k)

  pub none_permuted : (ps qs : List (K × V)) (k : K) → IsPermutation ps qs → pair_at cmp qs k ≡ None → pair_at cmp ps k ≡ None
  none_permuted ps qs k h none = absent_is _ (found_permuted ps qs k h ∙ ap is_some none)

module _ {K : Type 0} {cmp : K → K → Ordering} (o : IsTotalOrder cmp) where
  other_way : (j k : K) → is_eq (cmp j k) ≡ false → is_eq (cmp k j) ≡ false
  other_way j k h = ap is_eq (o.antisymm k j) ∙ by_order (cmp j k) h
    where
      by_order : (r : Ordering) → is_eq r ≡ false → is_eq (ordering_reverse r) ≡ false
      by_order Less h = refl
      by_order Equal h = cc
      by_order Greater h = refl

module _ {K V : Type 0} {cmp : K → K → Ordering} (o : IsTotalOrder cmp) where
  finite_apart : (m : List (K × V)) → IsFiniteMap cmp m → AreApart cmp m
  finite_apart [] s = tt
  finite_apart (p ∷ m) s = (pair_at_below o m p.0 (sorted_head cmp p.0 (keys_of m) s), finite_apart m (sorted_tail cmp p.0 (keys_of m) s))

  -- a new pair is one more
  put_new : (m : List (K × V)) (p : K × V) → IsFiniteMap cmp m → pair_at cmp m p.0 ≡ None → IsPermutation (p ∷ m) (with_pair cmp m p.0 p.1)
  put_new m p s none =
      let one : map_of_pairs cmp m ≡ m = same_map o (map_of_pairs cmp m) m (IsFiniteMap-map_of_pairs o m) s (pair_at-map_of_pairs o m) in
      rw (one, without_none cmp p.0 m none) at (gathered_permutes o (p ∷ m) (none, finite_apart m s))

  pub permuted_push : (ps m : List (K × V)) (p : K × V) → IsPermutation ps m → IsFiniteMap cmp m → pair_at cmp m p.0 ≡ None → IsPermutation (ps ++ p ∷ []) (with_pair cmp m p.0 p.1)
  permuted_push ps m p h s none = IsPermutation-push_more ps m (with_pair cmp m p.0 p.1) p h (put_new m p s none)

  behind : (ps : List (K × V)) (q p : K × V) → pair_at cmp ps q.0 ≡ None → is_eq (cmp q.0 p.0) ≡ false → pair_at cmp (ps ++ p ∷ []) q.0 ≡ None
  behind [] q p e other = rw other refl
  behind (r ∷ ps) q p e other = by_test (is_eq (cmp q.0 r.0)) refl (λ f. behind ps q p f other)
    where
      by_test : (b : Bool) → is_eq (cmp q.0 r.0) ≡ b → (pair_at cmp ps q.0 ≡ None → pair_at cmp (ps ++ p ∷ []) q.0 ≡ None) → pair_at cmp ((r ∷ ps) ++ p ∷ []) q.0 ≡ None
      by_test true t ih = let x = rw t at e in cc
      by_test false t ih = rw t (ih (rw t at e))

  pub apart_push : (ps : List (K × V)) (p : K × V) → AreApart cmp ps → pair_at cmp ps p.0 ≡ None → AreApart cmp (ps ++ p ∷ [])
  apart_push [] p h none = (refl, tt)
  apart_push (q ∷ ps) p h none = by_test (is_eq (cmp p.0 q.0)) refl (behind ps q p h.0) (apart_push ps p h.1)
    where
      by_test : (b : Bool) → is_eq (cmp p.0 q.0) ≡ b → (is_eq (cmp q.0 p.0) ≡ false → pair_at cmp (ps ++ p ∷ []) q.0 ≡ None) → (pair_at cmp ps p.0 ≡ None → AreApart cmp (ps ++ p ∷ [])) → AreApart cmp ((q ∷ ps) ++ p ∷ [])
      by_test true e other rest = let x = rw e at none in cc
      by_test false e other rest = (other (other_way o p.0 q.0 e), rest (rw e at none))
