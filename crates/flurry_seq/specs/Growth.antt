-- How many bins a table may have after keys were put.
use Rattle.std.specs.Prelude.{◌≡◌, ℕ, ◌+◌, ◌*◌, ◌^◌, ◌<◌, ◌≤◌, ◌⊎◌, ◌==◌, if◌then◌else◌}
use Rattle.flurry_base.specs.Sizes.{wanted_of, threshold_of, IsOnTheWay}
use Rattle.flurry_base.specs.declared.change.Change.{Change}
use Rattle.flurry_base.specs.declared.change.Change.TheVariants.{Absent, Added, Changed, Removed}
use Rattle.flurry_base.specs.declared.sizes.TheConstants.{FIRST_BINS, MAX_TABLE, TREEIFY_LEN, MIN_TREEIFY_BINS}
use Rattle.flurry_seq.specs.Contents.{first_bins}

-- the bins that a table has which is made for so many pairs; none for none
abbrev pub bins_for : ℕ → ℕ
bins_for count = if count == 0 then 0 else wanted_of count

-- what a table that began with n bins may be where the count gives no cause to double it. It has these bins still. Or n is too few
-- bins for trees, and there are more pairs than a long list has, as where one bin has more: then n was doubled some times, on the way
-- to twice the least for trees
abbrev pub IsTableFrom : ℕ → ℕ → ℕ → Type 0
IsTableFrom n count m = (m ≡ n) ⊎ ((n < MIN_TREEIFY_BINS) × (TREEIFY_LEN < count) × IsOnTheWay n (2 * MIN_TREEIFY_BINS) m)

-- what a table of n bins may be once a new key made so many pairs: first the key's bin may have had it doubled so, and then the
-- count, while it was no less than the threshold
abbrev pub IsTableAfter : ℕ → ℕ → ℕ → Type 0
IsTableAfter n count m = (mid : ℕ) × IsTableFrom n count mid × IsOnTheWay mid (count + 1) m

-- what a table of n bins may be once a call did so, and left so many pairs: only a new key may enlarge it
abbrev pub IsTableAfterChange : {V A : Type 0} → Change V A → ℕ → ℕ → ℕ → Type 0
IsTableAfterChange Absent n count m = m ≡ n
IsTableAfterChange (Added _) n count m = IsTableAfter (first_bins n FIRST_BINS) count m
IsTableAfterChange (Changed _) n count m = m ≡ n
IsTableAfterChange (Removed _) n count m = m ≡ n

-- n bins have room for so many pairs, and the count never has them doubled
abbrev pub HasRoom : ℕ → ℕ → Type 0
HasRoom n count = (count ≡ 0) ⊎ ((0 < n) × ((count < threshold_of n) ⊎ (2 ^ MAX_TABLE ≤ n)))
