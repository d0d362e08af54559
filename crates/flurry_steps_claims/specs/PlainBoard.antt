-- What a board of one thread shows, and what each of its calls answers and leaves.
use Rattle.std.specs.Prelude.{ℕ, ◌+◌, ◌-◌, ◌*◌, ◌^◌, ◌<◌, ◌≤◌, ◌==◌, ◌&&◌, nat_lt, nat_le, Bool, if◌then◌else◌}
use Rattle.flurry_base.specs.declared.sizes.TheConstants.{MAX_TABLE}
use Rattle.flurry_steps_claims.specs.declared.TheConstants.{SEATS}
use Rattle.flurry_steps_claims.specs.declared.range.Attempt.{Attempt}
use Rattle.flurry_steps_claims.specs.declared.range.Attempt.TheVariants.{Got, Nothing}
use Rattle.flurry_steps_claims.specs.Range.{Bounds, range_at, range_count}

-- the exponent of its table; the bins of a range; the number of the next range; how many bins are reported; how many seats are out
pub record PlainBoardState : Type 0 where
  pub table : ℕ
  pub stride : ℕ
  pub next : ℕ
  pub reported : ℕ
  pub out : ℕ

-- the bins that lie below all claimed ranges, and those that lie in one
abbrev pub unclaimed_of : PlainBoardState → ℕ
unclaimed_of b = 2 ^ b.table - b.next * b.stride

abbrev pub claimed_bins : PlainBoardState → ℕ
claimed_bins b = 2 ^ b.table - unclaimed_of b

-- what each board keeps
pub record IsPlainBoard (b : PlainBoardState) : Type 0 where
  pub table : b.table ≤ MAX_TABLE
  pub stride : 0 < b.stride
  pub small : b.stride ≤ 2 ^ MAX_TABLE
  pub next : b.next ≤ range_count b.table b.stride
  pub reported : b.reported ≤ claimed_bins b
  pub out : b.out ≤ SEATS

abbrev pub new_plain_board : ℕ → ℕ → PlainBoardState
new_plain_board e s = record { table = e; stride = s; next = 0; reported = 0; out = 0 }

-- the next range, where bins are left below those that are claimed
abbrev pub attempt_of : PlainBoardState → Attempt
attempt_of b = if nat_lt 0 (unclaimed_of b) then Got (range_at b.table b.stride b.next) else Nothing

abbrev pub after_attempt : PlainBoardState → PlainBoardState
after_attempt b = record {
  table = b.table;
  stride = b.stride;
  next = if nat_lt 0 (unclaimed_of b) then b.next + 1 else b.next;
  reported = b.reported;
  out = b.out;
}

-- how many bins are reported, with those of a range
abbrev pub reported_with : PlainBoardState → Bounds → ℕ
reported_with b r = b.reported + (r.high - r.low)

-- the range is of the board's table, and has no more bins than are claimed and not reported
abbrev pub can_report : PlainBoardState → Bounds → Bool
can_report b r = r.table == b.table && nat_le (reported_with b r) (claimed_bins b)

abbrev pub reports_last : PlainBoardState → Bounds → Bool
reports_last b r = can_report b r && (reported_with b r == 2 ^ b.table)

abbrev pub after_report : PlainBoardState → Bounds → PlainBoardState
after_report b r = record {
  table = b.table;
  stride = b.stride;
  next = b.next;
  reported = if can_report b r then reported_with b r else b.reported;
  out = b.out;
}

abbrev pub has_seat : PlainBoardState → Bool
has_seat b = nat_lt b.out SEATS

abbrev pub board_after_take : PlainBoardState → PlainBoardState
board_after_take b = record {
  table = b.table;
  stride = b.stride;
  next = b.next;
  reported = b.reported;
  out = if has_seat b then b.out + 1 else b.out;
}

abbrev pub after_give : PlainBoardState → PlainBoardState
after_give b = record { table = b.table; stride = b.stride; next = b.next; reported = b.reported; out = b.out - 1 }
