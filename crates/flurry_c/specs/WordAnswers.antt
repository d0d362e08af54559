-- What C is told of a map of numbers.
use Rattle.std.specs.Prelude.{◌≡◌, ℕ, List, Option, MatchOption}
use Rattle.std.specs.Ordering.{nat_cmp}
use Rattle.flurry_base.specs.FiniteMap.{value_at, with_pair}
use Rattle.flurry_c.specs.declared.statuses.TheConstants.{ABSENT, PRESENT}
use Rattle.flurry_c_base.specs.declared.words.Words.{Words}

-- the finite map behind the address
abbrev pub pairs_of : Words → List (ℕ × ℕ)
pairs_of w = w.map.map.pairs

-- the value of a key
abbrev pub value_of : Words → ℕ → Option ℕ
value_of w key = value_at nat_cmp (pairs_of w) key

-- the status says whether there is a value, and a value is written to the caller's number; if there is none, the number stays
abbrev pub Tells : Option ℕ → ℕ → ℕ → ℕ → Type 0
Tells value status before after = MatchOption value ((status ≡ ABSENT) × (after ≡ before)) (λ v. (status ≡ PRESENT) × (after ≡ v))

-- a new key was added; the map of a key that was there is as it was
abbrev pub KeepsOrAdds : List (ℕ × ℕ) → ℕ → ℕ → List (ℕ × ℕ) → Type 0
KeepsOrAdds old key value new = MatchOption (value_at nat_cmp old key) (new ≡ with_pair nat_cmp old key value) (λ _. new ≡ old)
