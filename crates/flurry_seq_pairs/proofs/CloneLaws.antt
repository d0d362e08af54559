-- Lists of clones.
use Rattle.std.proofs.Common.{◌≡◌, List, subst}
use Rattle.std.specs.List.Sorted.{IsPermutation}
use Rattle.std.proofs.lemmas.List.Elements.{same_from_all_zip}
use Rattle.std.proofs.lemmas.List.Sorted.{IsPermutation-trans}
use Rattle.flurry_seq_pairs.specs.Clones.{AreEqualClones, IsClonedPair, HasClonesOf}

same_parts : {K V : Type 0} {j k : K} {v w : V} → j ≡ k → v ≡ w → ◌≡◌ {A = K × V} (j, v) (k, w)
same_parts e f = cc

pub equal_pairs : {K V : Type 0} {C : K → K → Type 0} {D : V → V → Type 0} → AreEqualClones C → AreEqualClones D → AreEqualClones (IsClonedPair C D)
equal_pairs c d = λ x y h. same_parts (c x.0 y.0 h.0) (d x.1 y.1 h.1)

-- where clones are what they are made of, they are the elements in another order
pub permuted_clones : {X : Type 0} {C : X → X → Type 0} (xs ys : List X) → AreEqualClones C → HasClonesOf C xs ys → IsPermutation xs ys
permuted_clones {X} {C} xs ys same (from, to, first, each, last) =
    IsPermutation-trans xs from ys first (subst (λ l. IsPermutation l ys) (same_from_all_zip C from to each same) last)
