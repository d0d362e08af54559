-- Pairs whose key is a hash and a key: their order, and where they lie.
use Rattle.std.specs.Prelude.{◌≡◌, ◌==◌, ◌%◌, ◌^◌, ℕ, Bool, true, List, filter, Option, Some, None}
use Rattle.std.specs.declared.cmp.Ordering.{Ordering}
use Rattle.std.specs.Ordering.{nat_cmp, ordering_then, is_lt}
use Rattle.std.specs.Int.{bit_at}

-- by the hash, and then by the key
abbrev pub hash_then_key : {K : Type 0} → (K → K → Ordering) → ℕ × K → ℕ × K → Ordering
hash_then_key cmp a b = ordering_then (nat_cmp a.0 b.0) (cmp a.1 b.1)

-- a pair is past a bound; with no bound each one is
abbrev pub is_pair_past : {K W : Type 0} → (K → K → Ordering) → Option (ℕ × K) → (ℕ × K) × W → Bool
is_pair_past cmp None e = true
is_pair_past cmp (Some b) e = is_lt (hash_then_key cmp b e.0)

-- the pairs whose hash has this bit at this place, in their order
abbrev pub pairs_with_bit : {K V : Type 0} → ℕ → ℕ → List ((ℕ × K) × V) → List ((ℕ × K) × V)
pairs_with_bit place bit es = filter (λ e. bit_at e.0.0 place == bit) es

-- the hashes whose bin in a table of 2^e bins is the i-th
abbrev pub InRegion : ℕ → ℕ → ℕ → Type 0
InRegion e i h = h % 2 ^ e ≡ i
