-- Pairs that are put into a map, in one order or in another, and by way of a map of their own.
use Rattle.std.proofs.Common.{◌≡◌, Bool, true, false, cond, List, [], ◌∷◌, ◌++◌, map, flat_map, Option, Some, None, Result, Ok, refl, sym, ap, ◌∙◌, subst, Ordering, Less, Equal, Greater}
use Rattle.std.specs.Ordering.{is_eq}
use Rattle.std.specs.Cmp.{IsTotalOrder}
use Rattle.std.specs.Option.{option_map_or}
use Rattle.std.specs.List.{AllByRecursion, AllZip}
use Rattle.std.specs.List.Sorted.{IsPermutation}
use Rattle.std.specs.Map.{keys_of}
use Rattle.std.proofs.lemmas.List.Sorted.{IsPermutation-sym, All-permutation}
use Rattle.std.proofs.lemmas.List.Elements.{recursion_from_All, All-from_recursion}
use Rattle.std.proofs.lemmas.Map.Keys.{sorted_head, sorted_tail}
use Rattle.flurry_base.specs.FiniteMap.{IsFiniteMap, pair_at, with_pair, with_all, stored_key}
use Rattle.flurry_base.proofs.FiniteMapLaws.{IsFiniteMap-nil, IsFiniteMap-with_pair, pair_at-with_pair, pair_at_below, same_map}
use Rattle.flurry_base.proofs.ListParts.{all_map}
use Rattle.flurry_seq_par.specs.Joins.{with_maps}
use Rattle.flurry_seq.specs.Apart.{AreApart}
use Rattle.flurry_seq.proofs.CloneLaws.{alike_at}

eq_of : (r : Ordering) → is_eq r ≡ true → r ≡ Equal
eq_of Less e = cc
eq_of Equal e = refl
eq_of Greater e = cc

-- what stands at a class where a pair was put that may be there: a stored key stays
abbrev pub put_over : {K V : Type 0} → Option (K × V) → Option (K × V) → Option (K × V)
put_over old None = old
put_over None (Some p) = Some p
put_over (Some o) (Some p) = Some (o.0, p.1)

module _ {K V : Type 0} {cmp : K → K → Ordering} (o : IsTotalOrder cmp) where
  -- the pairs of a finite map are of different classes
  pub map_apart : (m : List (K × V)) → IsFiniteMap cmp m → AreApart cmp m
  map_apart [] s = tt
  map_apart (e ∷ m) s = (pair_at_below o m e.0 (sorted_head cmp e.0 (keys_of m) s), map_apart m (sorted_tail cmp e.0 (keys_of m) s))

  pub IsFiniteMap-with_all : (m ps : List (K × V)) → IsFiniteMap cmp m → IsFiniteMap cmp (with_all cmp m ps)
  IsFiniteMap-with_all m [] s = s
  IsFiniteMap-with_all m (p ∷ ps) s = IsFiniteMap-with_all (with_pair cmp m p.0 p.1) ps (IsFiniteMap-with_pair o m p.0 p.1 s)

  -- what stands at each class where pairs of different classes were put
  pub pair_at-with_all : (m ps : List (K × V)) (q : K) → IsFiniteMap cmp m → AreApart cmp ps → pair_at cmp (with_all cmp m ps) q ≡ put_over (pair_at cmp m q) (pair_at cmp ps q)
  pair_at-with_all m [] q s apart = refl
  pair_at-with_all m (p ∷ ps) q s apart =
      pair_at-with_all (with_pair cmp m p.0 p.1) ps q (IsFiniteMap-with_pair o m p.0 p.1 s) apart.1 ∙ by_test (is_eq (cmp q p.0)) refl
    where
      by_test : (t : Bool) → is_eq (cmp q p.0) ≡ t → put_over (pair_at cmp (with_pair cmp m p.0 p.1) q) (pair_at cmp ps q) ≡ put_over (pair_at cmp m q) (cond t (Some p) (pair_at cmp ps q))
      by_test true e =
          let none : pair_at cmp ps q ≡ None = alike_at o ps q p.0 (eq_of _ e) ∙ apart.0 in
          let here : pair_at cmp (with_pair cmp m p.0 p.1) q ≡ Some (stored_key cmp m p.0, p.1) = pair_at-with_pair o m p.0 p.1 q s ∙ ap (λ b. cond b (Some (stored_key cmp m p.0, p.1)) (pair_at cmp m q)) e in
          rw (none, here, alike_at o m q p.0 (eq_of _ e)) (by_old (pair_at cmp m p.0))
        where
          by_old : (w : Option (K × V)) → Some (option_map_or (λ (x : K × V). x.0) w p.0, p.1) ≡ put_over w (Some p)
          by_old None = refl
          by_old (Some x) = refl
      by_test false e = rw (pair_at-with_pair o m p.0 p.1 q s, e) refl

  -- a list's pair of a class is what any list has there that has the same pairs
  module _ (q : K) where
    each_found : (xs : List (K × V)) → AreApart cmp xs → AllByRecursion (λ p. is_eq (cmp q p.0) ≡ true → pair_at cmp xs q ≡ Some p) xs
    each_found [] apart = tt
    each_found (x ∷ xs) apart = by_test (is_eq (cmp q x.0)) refl (each_found xs apart.1)
      where
        by_test : (t : Bool) → is_eq (cmp q x.0) ≡ t → AllByRecursion (λ p. is_eq (cmp q p.0) ≡ true → pair_at cmp xs q ≡ Some p) xs
            → AllByRecursion (λ p. is_eq (cmp q p.0) ≡ true → pair_at cmp (x ∷ xs) q ≡ Some p) (x ∷ xs)
        by_test true e h =
            let none : pair_at cmp xs q ≡ None = alike_at o xs q x.0 (eq_of _ e) ∙ apart.0 in
            (λ _. ap (λ b. cond b (Some x) (pair_at cmp xs q)) e, all_map _ _ (λ p found at. let no : None ≡ Some p = sym none ∙ found at in cc) xs h)
        by_test false e h =
            let same : pair_at cmp (x ∷ xs) q ≡ pair_at cmp xs q = ap (λ b. cond b (Some x) (pair_at cmp xs q)) e in
            (λ t. let no : false ≡ true = sym e ∙ t in cc, all_map _ _ (λ p found at. same ∙ found at) xs h)

    all_absent : (xs : List (K × V)) → AllByRecursion (λ p. is_eq (cmp q p.0) ≡ false) xs → pair_at cmp xs q ≡ None
    all_absent [] h = refl
    all_absent (x ∷ xs) h = ap (λ b. cond b (Some x) (pair_at cmp xs q)) h.0 ∙ all_absent xs h.1

    found_first : (w : Option (K × V)) (ys : List (K × V)) → AllByRecursion (λ p. is_eq (cmp q p.0) ≡ true → w ≡ Some p) ys
        → (AllByRecursion (λ p. is_eq (cmp q p.0) ≡ false) ys → w ≡ None) → w ≡ pair_at cmp ys q
    found_first w [] h none = none tt
    found_first w (y ∷ ys) h none = by_test (is_eq (cmp q y.0)) refl (found_first w ys h.1)
      where
        by_test : (t : Bool) → is_eq (cmp q y.0) ≡ t → ((AllByRecursion (λ p. is_eq (cmp q p.0) ≡ false) ys → w ≡ None) → w ≡ pair_at cmp ys q) → w ≡ cond t (Some y) (pair_at cmp ys q)
        by_test true e ih = h.0 e
        by_test false e ih = ih (λ all. none (e, all))

    moved : (P : K × V → Type 0) (xs ys : List (K × V)) → IsPermutation xs ys → AllByRecursion P xs → AllByRecursion P ys
    moved P xs ys s h = recursion_from_All P ys (All-permutation P xs ys s (All-from_recursion P xs h))

    pub pair_at-permuted : (xs ys : List (K × V)) → AreApart cmp xs → IsPermutation xs ys → pair_at cmp xs q ≡ pair_at cmp ys q
    pair_at-permuted xs ys apart s =
        found_first (pair_at cmp xs q) ys (moved (λ p. is_eq (cmp q p.0) ≡ true → pair_at cmp xs q ≡ Some p) xs ys s (each_found xs apart))
        (λ none. all_absent xs (moved (λ p. is_eq (cmp q p.0) ≡ false) ys xs (IsPermutation-sym xs ys s) none))

  -- pairs of different classes may be put in any order
  pub with_all-permuted : (m xs ys : List (K × V)) → IsFiniteMap cmp m → AreApart cmp xs → AreApart cmp ys → IsPermutation xs ys → with_all cmp m xs ≡ with_all cmp m ys
  with_all-permuted m xs ys s xa ya p =
      same_map o _ _ (IsFiniteMap-with_all m xs s) (IsFiniteMap-with_all m ys s)
      (λ q. pair_at-with_all m xs q s xa ∙ ap (put_over (pair_at cmp m q)) (pair_at-permuted q xs ys xa p) ∙ sym (pair_at-with_all m ys q s ya))

  -- a pair that was put into a map last is put last where that map is put
  with_all-with_pair : (l m : List (K × V)) (k : K) (v : V) → IsFiniteMap cmp l → IsFiniteMap cmp m → with_all cmp l (with_pair cmp m k v) ≡ with_pair cmp (with_all cmp l m) k v
  with_all-with_pair l m k v sl sm =
      same_map o _ _ (IsFiniteMap-with_all l (with_pair cmp m k v) sl) (IsFiniteMap-with_pair o (with_all cmp l m) k v (IsFiniteMap-with_all l m sl))
      (λ q. pair_at-with_all l (with_pair cmp m k v) q sl (map_apart (with_pair cmp m k v) (IsFiniteMap-with_pair o m k v sm))
      ∙ ap (put_over (pair_at cmp l q)) (pair_at-with_pair o m k v q sm)
      ∙ by_test q (is_eq (cmp q k)) refl
      ∙ sym (pair_at-with_pair o (with_all cmp l m) k v q (IsFiniteMap-with_all l m sl)))
    where
      by_both : (a b : Option (K × V)) → put_over a (Some (option_map_or (λ (x : K × V). x.0) b k, v)) ≡ Some (option_map_or (λ (x : K × V). x.0) (put_over a b) k, v)
      by_both None None = refl
      by_both None (Some y) = refl
      by_both (Some x) None = refl
      by_both (Some x) (Some y) = refl

      by_test : (q : K) (t : Bool) → is_eq (cmp q k) ≡ t
          → put_over (pair_at cmp l q) (cond t (Some (stored_key cmp m k, v)) (pair_at cmp m q)) ≡ cond t (Some (stored_key cmp (with_all cmp l m) k, v)) (pair_at cmp (with_all cmp l m) q)
      by_test q true e =
          rw (alike_at o l q k (eq_of _ e), pair_at-with_all l m k sl (map_apart m sm)) (by_both (pair_at cmp l k) (pair_at cmp m k))
      by_test q false e = sym (pair_at-with_all l m q sl (map_apart m sm))

  -- to put the map that was built of pairs is to put the pairs
  pub with_all-with_all : (l m ps : List (K × V)) → IsFiniteMap cmp l → IsFiniteMap cmp m → with_all cmp l (with_all cmp m ps) ≡ with_all cmp (with_all cmp l m) ps
  with_all-with_all l m [] sl sm = refl
  with_all-with_all l m (p ∷ ps) sl sm =
      with_all-with_all l (with_pair cmp m p.0 p.1) ps sl (IsFiniteMap-with_pair o m p.0 p.1 sm) ∙ ap (λ x. with_all cmp x ps) (with_all-with_pair l m p.0 p.1 sl sm)

module _ {K V : Type 0} (cmp : K → K → Ordering) where
  pub with_all-append : (m xs ys : List (K × V)) → with_all cmp m (xs ++ ys) ≡ with_all cmp (with_all cmp m xs) ys
  with_all-append m [] ys = refl
  with_all-append m (x ∷ xs) ys = with_all-append (with_pair cmp m x.0 x.1) xs ys

  pub with_maps-push : {M : Type 0} (f : M → List (K × V)) (m : List (K × V)) (ns : List M) (n : M) → with_maps cmp m (map f (ns ++ n ∷ [])) ≡ with_all cmp (with_maps cmp m (map f ns)) (f n)
  with_maps-push f m [] n = refl
  with_maps-push f m (x ∷ ns) n = with_maps-push f (with_all cmp m (f x)) ns n

module _ {K V P M E : Type 0} {cmp : K → K → Ordering} (o : IsTotalOrder cmp) (items : P → List (K × V)) (pairs : M → List (K × V)) (R : P → Result M E → Type 0) (made : (p : P) (m : M) → R p (Ok m) → pairs m ≡ with_all cmp [] (items p)) where
  built_each : (ps : List P) (ms : List M) → AllZip R ps (map Ok ms) → (l : List (K × V)) → IsFiniteMap cmp l → with_maps cmp l (map pairs ms) ≡ with_all cmp l (flat_map items ps)
  built_each [] [] zip l s = refl
  built_each [] (m ∷ ms) zip l s = absurd zip
  built_each (p ∷ ps) [] zip l s = absurd zip
  built_each (p ∷ ps) (m ∷ ms) zip l s =
      let first : with_all cmp l (pairs m) ≡ with_all cmp l (items p) = ap (with_all cmp l) (made p m zip.0) ∙ with_all-with_all o l [] (items p) s (IsFiniteMap-nil V cmp) in
      ap (λ z. with_maps cmp z (map pairs ms)) first ∙ built_each ps ms zip.1 (with_all cmp l (items p)) (IsFiniteMap-with_all o l (items p) s)
      ∙ sym (with_all-append cmp l (items p) (flat_map items ps))

  -- the maps of the pieces of a list, joined in their order, are the map of the list
  pub built : (ps : List P) (rs : List (Result M E)) (ms : List M) → rs ≡ map Ok ms → AllZip R ps rs → with_maps cmp [] (map pairs ms) ≡ with_all cmp [] (flat_map items ps)
  built ps rs ms is zip = built_each ps ms (subst (AllZip R ps) is zip) [] (IsFiniteMap-nil V cmp)
