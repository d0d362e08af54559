-- A table: its bins in order, each a finite map whose key is the hash and the key.
use Rattle.std.specs.Prelude.{◌≡◌, ℕ, zero, suc, ◌*◌, ◌^◌, ◌%◌, nat_lt, not, List, [], ◌∷◌, ◌++◌, length, map, filter, slice_index_or, slice_set, Bool, true, false, Option, if◌then◌else◌}
use Rattle.std.specs.declared.cmp.Ordering.{Ordering}
use Rattle.flurry_base.specs.FiniteMap.{pair_at, with_pair, without}
use Rattle.flurry_base.specs.HashOrder.{hash_then_key}

-- the bin of a hash in a table of n bins
abbrev pub bin_of : ℕ → ℕ → ℕ
bin_of n hash = hash % n

-- the hash's bin in a table of 2 * n bins is its bin in one of n bins
abbrev pub is_low : ℕ → ℕ → Bool
is_low n hash = nat_lt (hash % (2 * n)) n

-- whether the hash's bin is the high half of its bin before a doubling, or the low one
abbrev pub is_in_half : ℕ → Bool → ℕ → Bool
is_in_half n high hash = if high then not (is_low n hash) else is_low n hash

-- m is n, 2 * n, 4 * n or so on
abbrev pub IsTimesPower : ℕ → ℕ → Type 0
IsTimesPower n m = (j : ℕ) × (m ≡ n * 2 ^ j)

module _ {K V : Type 0} where
  -- the entries of that half, in the old order
  abbrev pub half_of : ℕ → Bool → List ((ℕ × K) × V) → List ((ℕ × K) × V)
  half_of n high es = filter (λ e. is_in_half n high e.0.0) es

  -- a bin's entry as a pair
  abbrev pub pair_of : (ℕ × K) × V → K × V
  pair_of e = (e.0.1, e.1)

  -- all entries, and all pairs, in the order of the table
  abbrev pub all_entries : List (List ((ℕ × K) × V)) → List ((ℕ × K) × V)
  all_entries [] = []
  all_entries (b ∷ bins) = b ++ all_entries bins

  abbrev pub all_pairs : List (List ((ℕ × K) × V)) → List (K × V)
  all_pairs [] = []
  all_pairs (b ∷ bins) = map pair_of b ++ all_pairs bins

  -- the bin of a hash
  abbrev pub bin_at : List (List ((ℕ × K) × V)) → ℕ → List ((ℕ × K) × V)
  bin_at bins hash = slice_index_or bins (bin_of (length bins) hash) []

  -- twice as many bins: first the low halves, and then the high ones
  abbrev pub bins_doubled : List (List ((ℕ × K) × V)) → List (List ((ℕ × K) × V))
  bins_doubled bins = map (half_of (length bins) false) bins ++ map (half_of (length bins) true) bins

  -- the bins after so many doublings
  abbrev pub bins_after : ℕ → List (List ((ℕ × K) × V)) → List (List ((ℕ × K) × V))
  bins_after zero bins = bins
  bins_after (suc j) bins = bins_doubled (bins_after j bins)

  -- the bins were doubled until there were m
  abbrev pub IsEnlarged : ℕ → List (List ((ℕ × K) × V)) → List (List ((ℕ × K) × V)) → Type 0
  IsEnlarged m old new = (j : ℕ) × (m ≡ length old * 2 ^ j) × (new ≡ bins_after j old)

  module _ (cmp : K → K → Ordering) where
    -- what the table has at a hash and a key
    abbrev pub entry_in : List (List ((ℕ × K) × V)) → ℕ → K → Option ((ℕ × K) × V)
    entry_in bins hash k = pair_at (hash_then_key cmp) (bin_at bins hash) (hash, k)

    -- the table with a value there
    abbrev pub bins_with : List (List ((ℕ × K) × V)) → ℕ → K → V → List (List ((ℕ × K) × V))
    bins_with bins hash k v = slice_set bins (bin_of (length bins) hash) (with_pair (hash_then_key cmp) (bin_at bins hash) (hash, k) v)

    -- the table with nothing there
    abbrev pub bins_without : List (List ((ℕ × K) × V)) → ℕ → K → List (List ((ℕ × K) × V))
    bins_without bins hash k = slice_set bins (bin_of (length bins) hash) (without (hash_then_key cmp) (bin_at bins hash) (hash, k))
