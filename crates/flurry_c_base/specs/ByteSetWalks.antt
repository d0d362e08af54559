-- The elements of a set of byte strings in a caller's buffers.
use Rattle.std.specs.Prelude.{◌≡◌, ◌++◌, ℕ, List, IsPermutation, drop, length, map}
use Rattle.std.specs.List.{concat}

-- of the elements, each once, in some order, the lengths are at the beginning of one buffer, and the bytes at that of the other; what lies
-- behind them stays
abbrev pub ListsElements : List (List ℕ) → List ℕ → List ℕ → List ℕ → List ℕ → Type 0
ListsElements elements lengths_before lengths_after text_before text_after = (order : List (List ℕ)) × IsPermutation elements order
    × (lengths_after ≡ map length order ++ drop (length order) lengths_before)
    × (text_after ≡ concat order ++ drop (length (concat order)) text_before)
