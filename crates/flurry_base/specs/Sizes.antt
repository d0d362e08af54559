-- The sizes of tables.
use Rattle.std.specs.Prelude.{◌≡◌, ℕ, ◌+◌, ◌-◌, ◌*◌, ◌/◌, ◌^◌, ◌<◌, ◌≤◌, ◌⊎◌, nat_le, max, length, if◌then◌else◌}
use Rattle.std.specs.Int.Digits.{digits_of}
use Rattle.flurry_base.specs.declared.sizes.TheConstants.{MAX_TABLE, MIN_STRIDE}

-- a table of n bins is doubled once it has this many pairs
abbrev pub threshold_of : ℕ → ℕ
threshold_of n = n - n / 4

-- the bins of a table for s pairs: those of the greatest table for s from half of these on, and else the least power of two above s + s / 2, which is 2 to the
-- number of that number's binary digits
unfoldable pub wanted_of : ℕ → ℕ
wanted_of s = if nat_le (2 ^ (MAX_TABLE - 1)) s then 2 ^ MAX_TABLE else 2 ^ length (digits_of 2 (s + s / 2))

-- how many bins of n one of p processors claims at once
abbrev pub stride_of : ℕ → ℕ → ℕ
stride_of n p = if nat_le p 1 then max MIN_STRIDE n else max MIN_STRIDE ((n / 8) / p)

-- a table of n bins is doubled on the way to room for w pairs below the threshold
abbrev pub IsTooSmall : ℕ → ℕ → Type 0
IsTooSmall n w = (threshold_of n < w) × (n < 2 ^ MAX_TABLE)

-- m is n, doubled some times, and each doubling was one on the way to w
abbrev pub IsOnTheWay : ℕ → ℕ → ℕ → Type 0
IsOnTheWay n w m = (j : ℕ) × (m ≡ n * 2 ^ j) × ((i : ℕ) → i < j → IsTooSmall (n * 2 ^ i) w)

-- m is the least of n, 2 * n, 4 * n and so on that is the greatest or whose threshold is at least w
abbrev pub IsGrown : ℕ → ℕ → ℕ → Type 0
IsGrown n w m = IsOnTheWay n w m × ((w ≤ threshold_of m) ⊎ (2 ^ MAX_TABLE ≤ m))
