-- Numbers that are marked in a list of marks.
use Rattle.std.specs.Prelude.{◌≡◌, ◌≤◌, ℕ, Bool, false, cond, List, get_or, ltb}
use Rattle.flurry_base.specs.Occurrences.{occurrences}

-- each number that has a mark stands in the list once, and no other does
pub record AreMarked (marks : List Bool) (xs : List ℕ) : Type 0 where
  pub each : (x : ℕ) → occurrences x xs ≡ cond (get_or marks x false) 1 0

-- no number of the list comes twice, and each is below n
abbrev pub AreOnce : ℕ → List ℕ → Type 0
AreOnce n xs = (x : ℕ) → occurrences x xs ≤ cond (ltb x n) 1 0
