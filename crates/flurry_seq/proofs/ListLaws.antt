-- Tests of all elements of a list.
use Rattle.std.proofs.Common.{◌≡◌, Bool, true, false, not, ◌&&◌, ◌||◌, List, [], ◌∷◌, refl, sym, ap, ◌∙◌}
use Rattle.std.specs.List.{list_all, list_any}
use Rattle.std.specs.List.Sorted.{IsPermutation}
use Rattle.std.proofs.lemmas.List.Sorted.{list_any-IsPermutation}

-- a list and its permutation
pub list_all_permuted : {X : Type 0} (p : X → Bool) (xs ys : List X) → IsPermutation xs ys → list_all p xs ≡ list_all p ys
list_all_permuted {X} p xs ys h = by_any xs ∙ ap not (list_any-IsPermutation (λ x. not (p x)) xs ys h) ∙ sym (by_any ys)
  where
    step : (a b c : Bool) → b ≡ not c → (a && b) ≡ not (not a || c)
    step true b c h = h
    step false b c h = refl

    by_any : (l : List X) → list_all p l ≡ not (list_any (λ x. not (p x)) l)
    by_any [] = refl
    by_any (x ∷ l) = step (p x) _ _ (by_any l)
