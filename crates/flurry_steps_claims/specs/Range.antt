-- Ranges of bins of a table, numbered from the topmost down.
use Rattle.std.specs.Prelude.{◌≡◌, ℕ, ◌+◌, ◌-◌, ◌*◌, ◌/◌, ◌^◌, ◌<◌, ◌≤◌, ◌==◌, ◌&&◌, ◌↔◌, Bool}
use Rattle.flurry_base.specs.declared.sizes.TheConstants.{MAX_TABLE}

-- the range of this number: the bins of the table of 2^table bins from `low` to below `high`
pub record Bounds : Type 0 where
  pub table : ℕ
  pub number : ℕ
  pub low : ℕ
  pub high : ℕ

-- the range has a bin, and lies in its table, which is at most the greatest
pub record IsRange (r : Bounds) : Type 0 where
  pub table : r.table ≤ MAX_TABLE
  pub some : r.low < r.high
  pub high : r.high ≤ 2 ^ r.table

-- over the ranges of s bins each of table e
module _ (e s : ℕ) where
  -- some bin lies below the first k ranges
  abbrev pub IsNumber : ℕ → Type 0
  IsNumber k = k * s < 2 ^ e

  -- range k; it is cut off at bin 0
  abbrev pub range_at : ℕ → Bounds
  range_at k = record { table = e; number = k; low = 2 ^ e - (k + 1) * s; high = 2 ^ e - k * s }

  -- whether these are the bounds of range k
  abbrev pub is_range_at : ℕ → Bounds → Bool
  is_range_at k r = r.table == e && r.number == k && r.low == (range_at k).low && r.high == (range_at k).high

  abbrev pub range_count : ℕ
  range_count = (2 ^ e + (s - 1)) / s

  -- bin i lies in range k
  abbrev pub LiesIn : ℕ → ℕ → Type 0
  LiesIn k i = ((range_at k).low ≤ i) × (i < (range_at k).high)

  -- each bin of the table lies in exactly one range, and the numbers of the ranges are those below their count
  abbrev pub CutsTable : Type 0
  CutsTable = 0 < s
      → ((i : ℕ) → i < 2 ^ e → (k : ℕ) × IsNumber k × LiesIn k i)
      × ((i j k : ℕ) → LiesIn j i → LiesIn k i → j ≡ k)
      × ((k : ℕ) → IsNumber k ↔ (k < range_count))
