-- The elements of a set of numbers in a caller's buffer.
use Rattle.std.specs.Prelude.{◌≡◌, ◌++◌, ℕ, List, IsPermutation, drop, length}

-- the elements, each once, in some order, are at its beginning, and what lies behind them stays
abbrev pub ListsElements : List ℕ → List ℕ → List ℕ → Type 0
ListsElements elements before after = (order : List ℕ) × IsPermutation elements order × (after ≡ order ++ drop (length order) before)
