-- Elements that are put into a set are the keys of pairs that are put into a map.
use Rattle.std.proofs.Common.{◌≡◌, List, [], ◌∷◌, ◌++◌, map, refl, sym, ap, ◌∙◌, subst, Ordering}
use Rattle.std.specs.Cmp.{IsTotalOrder}
use Rattle.std.specs.List.Sorted.{IsPermutation, IsStrictlySortedBy}
use Rattle.std.specs.Map.{keys_of}
use Rattle.flurry_base.specs.FiniteMap.{IsFiniteMap, with_pair, with_all}
use Rattle.flurry_base.specs.FiniteSet.{IsFiniteSet, with_element, with_elements}
use Rattle.flurry_base.proofs.FiniteMapLaws.{IsFiniteMap-nil}
use Rattle.flurry_seq.specs.Apart.{AreApart}
use Rattle.flurry_seq_set.proofs.SetLaws.{with_element-keys}
use Rattle.flurry_seq_par.specs.Joins.{with_unit}
use Rattle.flurry_seq_par.proofs.Joining.{IsFiniteMap-with_all, map_apart, with_all-permuted, with_all-with_all}

pub with_elements-append : {T : Type 0} (cmp : T → T → Ordering) (s xs ys : List T) → with_elements cmp s (xs ++ ys) ≡ with_elements cmp (with_elements cmp s xs) ys
with_elements-append cmp s [] ys = refl
with_elements-append cmp s (x ∷ xs) ys = with_elements-append cmp (with_element cmp s x) xs ys

-- the elements of a set are the keys of a map
pub with_elements-keys : {K V : Type 0} (cmp : K → K → Ordering) (m ps : List (K × V)) → with_elements cmp (keys_of m) (keys_of ps) ≡ keys_of (with_all cmp m ps)
with_elements-keys cmp m [] = refl
with_elements-keys cmp m (p ∷ ps) = ap (λ s. with_elements cmp s (keys_of ps)) (with_element-keys cmp m p.0 p.1) ∙ with_elements-keys cmp (with_pair cmp m p.0 p.1) ps

pub keys_of-units : {T : Type 0} (xs : List T) → keys_of (map with_unit xs) ≡ xs
keys_of-units [] = refl
keys_of-units (x ∷ xs) = ap (λ l. x ∷ l) (keys_of-units xs)

-- the keys of the map that was built of elements are the set of them
pub elements_built : {T : Type 0} (cmp : T → T → Ordering) (xs : List T) → keys_of (with_all cmp [] (map with_unit xs)) ≡ with_elements cmp [] xs
elements_built cmp xs = sym (with_elements-keys cmp [] (map with_unit xs)) ∙ ap (with_elements cmp []) (keys_of-units xs)

module _ {T : Type 0} {cmp : T → T → Ordering} (o : IsTotalOrder cmp) where
  -- to put these keys, in any order, is to put the elements
  pub with_elements-built : (s xs : List T) (ps : List (T × Unit {0})) → IsFiniteSet cmp s → AreApart cmp ps → IsPermutation (with_all cmp [] (map with_unit xs)) ps
      → with_elements cmp s (keys_of ps) ≡ with_elements cmp s xs
  with_elements-built s xs ps sorted apart same =
      let m = map with_unit s in
      let built = with_all cmp [] (map with_unit xs) in
      let first : IsFiniteMap cmp m = subst (IsStrictlySortedBy cmp) (sym (keys_of-units s)) sorted in
      let none = IsFiniteMap-nil (Unit {0}) cmp in
      let made = IsFiniteMap-with_all o [] (map with_unit xs) none in
      ap (λ l. with_elements cmp l (keys_of ps)) (sym (keys_of-units s))
      ∙ with_elements-keys cmp m ps
      ∙ ap keys_of (sym (with_all-permuted o m built ps first (map_apart o built made) apart same) ∙ with_all-with_all o m [] (map with_unit xs) first none)
      ∙ sym (with_elements-keys cmp m (map with_unit xs))
      ∙ (λ i. with_elements cmp (keys_of-units s i) (keys_of-units xs i))
