-- The pairs of a map of numbers in a caller's buffer.
use Rattle.std.specs.Prelude.{◌≡◌, ◌++◌, ℕ, List, IsPermutation, drop, length, map}
use Rattle.flurry_c_base.specs.declared.word_pair.WordPair.{WordPair}

abbrev pub pair_of : ℕ × ℕ → WordPair
pair_of p = record { key = p.0; value = p.1 }

-- the pairs, each once, in some order, are at its beginning, and what lies behind them stays
abbrev pub ListsPairs : List (ℕ × ℕ) → List WordPair → List WordPair → Type 0
ListsPairs pairs before after = (order : List (ℕ × ℕ)) × IsPermutation pairs order × (after ≡ map pair_of order ++ drop (length order) before)
