-- Keys that stand twice in a list of pairs.
use Rattle.std.specs.Prelude.{◌≡◌, ℕ, List, ◌∷◌, ◌++◌, length, IsSome}
use Rattle.std.specs.declared.cmp.Ordering.{Ordering}
use Rattle.flurry_base.specs.FiniteMap.{pair_at}
use Rattle.flurry_seq.specs.Apart.{AreApart}

-- the pair at this position has the class of one before it, and no pair before it has
abbrev pub IsFirstDouble : {K V : Type 0} → (K → K → Ordering) → List (K × V) → ℕ → Type 0
IsFirstDouble {K} {V} cmp ps position =
    (front back : List (K × V)) × (p : K × V)
    × (ps ≡ front ++ p ∷ back) × (length front ≡ position) × AreApart cmp front × IsSome (pair_at cmp front p.0)
