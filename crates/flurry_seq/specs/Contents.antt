-- What an owned map is seen as.
use Rattle.std.specs.Prelude.{◌≡◌, ◌==◌, ◌+◌, ◌-◌, ◌^◌, min, length, ℕ, List, refl, if◌then◌else◌}
use Rattle.std.specs.Coded.{Coded, code_by, coded×, coded_list, coded_ℕ}
use Rattle.flurry_base.specs.Sizes.{wanted_of}

-- the pairs, which are a finite map; the number of bins, 0 without a table; and the hasher
pub record Contents (K V S : Type 0) : Type 0 where
  pub pairs : List (K × V)
  pub bins : ℕ
  pub hasher : S

module _ {K V S : Type 0} where
  abbrev pub contents : List (K × V) → ℕ → S → Contents K V S
  contents ps n s = record { pairs = ps; bins = n; hasher = s }

  -- the map with other pairs, in as many bins
  abbrev pub with_pairs : Contents K V S → List (K × V) → Contents K V S
  with_pairs m ps = record m { pairs = ps }

  abbrev pub contents_code : Coded K → Coded V → Coded S → Coded (Contents K V S)
  contents_code k v s =
      code_by (List (K × V) × (ℕ × S)) (coded× (coded_list (coded× k v)) (coded× coded_ℕ s)) (λ c. (c.pairs, (c.bins, c.hasher))) (λ p. contents p.0 p.1.0 p.1.1)
      (λ _. refl)

  -- only the number of bins may differ
  abbrev pub SamePairs : Contents K V S → Contents K V S → Type 0
  SamePairs old new = (new.pairs ≡ old.pairs) × (new.hasher ≡ old.hasher)

  -- the bins that are asked for where room for so many more pairs is made; the sum stops at the greatest number
  abbrev pub asked_for : Contents K V S → ℕ → ℕ
  asked_for m additional = wanted_of (min (length m.pairs + additional) (2 ^ 64 - 1))

-- where room for a table of w bins is made, the doubling begins at the bins that there are, or at w without a table
abbrev pub first_bins : ℕ → ℕ → ℕ
first_bins bins w = if bins == 0 then w else bins
