-- What C is told of a key or an element.
use Rattle.std.specs.Prelude.{◌≡◌, ℕ, Option, MatchOption}
use Rattle.flurry_c.specs.declared.statuses.TheConstants.{ABSENT, PRESENT}

-- the status says whether there is one
abbrev pub Finds : {X : Type 0} → Option X → ℕ → Type 0
Finds found status = MatchOption found (status ≡ ABSENT) (λ _. status ≡ PRESENT)
