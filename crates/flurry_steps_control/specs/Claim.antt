-- Ranges of bins that are being moved into the next table.
use Rattle.std.specs.Prelude.{ℕ, ◌-◌, ◌<◌, ◌≤◌, nat_lt, Option, Some, None, if◌then◌else◌}
use Rattle.flurry_steps_claims.specs.Range.{Bounds, IsRange}
use Rattle.flurry_base.specs.declared.sizes.TheConstants.{MAX_TABLE}

-- a range of bins, of which those from `left` on have moved
pub record ClaimState : Type 0 where
  pub range : Bounds
  pub left : ℕ

-- there is a next table, and the bins that have not moved are the first ones of the range
pub record IsClaim (c : ClaimState) : Type 0 where
  pub range : IsRange c.range
  pub table : c.range.table < MAX_TABLE
  pub low : c.range.low ≤ c.left
  pub left : c.left ≤ c.range.high

-- none of the range's bins has moved
abbrev pub whole_claim : Bounds → ClaimState
whole_claim r = record { range = r; left = r.high }

-- the table and the index of the bin to move next: bins are moved from the last one down
abbrev pub next_of : ClaimState → Option (ℕ × ℕ)
next_of c = if nat_lt c.range.low c.left then Some (c.range.table, c.left - 1) else None

-- the range, once all of its bins have moved
abbrev pub moved_range : ClaimState → Option Bounds
moved_range c = if nat_lt c.range.low c.left then None else Some c.range

-- the claim, after its next bin has moved
abbrev pub moved_on : ClaimState → ClaimState
moved_on c = record { range = c.range; left = c.left - 1 }
