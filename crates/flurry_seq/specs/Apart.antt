-- Pairs of different classes, and entries under the hashes of their keys.
use Rattle.std.specs.Prelude.{◌≡◌, ℕ, List, [], ◌∷◌, None}
use Rattle.std.specs.declared.cmp.Ordering.{Ordering}
use Rattle.std.specs.List.{AllByRecursion}
use Rattle.flurry_base.specs.FiniteMap.{pair_at}

-- no pair has the class of one before it
abbrev pub AreApart : {K V : Type 0} → (K → K → Ordering) → List (K × V) → Type 0
AreApart cmp [] = Unit {0}
AreApart cmp (p ∷ ps) = (pair_at cmp ps p.0 ≡ None) × AreApart cmp ps

-- each has its key's hash
abbrev pub AreHashed : {K V : Type 0} → (K → ℕ) → List ((ℕ × K) × V) → Type 0
AreHashed hash es = AllByRecursion (λ e. e.0.0 ≡ hash e.0.1) es
