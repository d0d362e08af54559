-- How often a number stands in a list.
use Rattle.std.specs.Prelude.{ℕ, ◌==◌, List, count_by}

-- how often x stands in xs
abbrev pub occurrences : ℕ → List ℕ → ℕ
occurrences x xs = count_by (λ y. y == x) xs
