-- The pairs of a map of bytes in a caller's buffers.
use Rattle.std.specs.Prelude.{◌≡◌, ◌++◌, ◌+◌, ℕ, List, IsPermutation, drop, flat_map, length, map}
use Rattle.flurry_c_base.specs.declared.byte_pair.BytePair.{BytePair}

-- how many bytes a pair has
abbrev pub size_of : List ℕ × List ℕ → ℕ
size_of p = length p.0 + length p.1

abbrev pub lengths_of : List ℕ × List ℕ → BytePair
lengths_of p = record { key = length p.0; value = length p.1 }

-- the key's bytes and then the value's
abbrev pub text_of : List ℕ × List ℕ → List ℕ
text_of p = p.0 ++ p.1

-- of the pairs, each once, in some order, the lengths are at the beginning of one buffer, and the bytes at that of the other; what lies
-- behind them stays
abbrev pub ListsPairs : List (List ℕ × List ℕ) → List BytePair → List BytePair → List ℕ → List ℕ → Type 0
ListsPairs pairs lengths_before lengths_after text_before text_after = (order : List (List ℕ × List ℕ)) × IsPermutation pairs order
    × (lengths_after ≡ map lengths_of order ++ drop (length order) lengths_before)
    × (text_after ≡ flat_map text_of order ++ drop (length (flat_map text_of order)) text_before)
