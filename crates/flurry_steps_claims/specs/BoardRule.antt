-- What holds of a board between any two steps: of its two words, the next number and the number of reports, and of all its seats.
use Rattle.std.specs.Prelude.{◌≡◌, ℕ, ◌<◌, ◌≤◌, cond, ltb, eqb, List, length, slice_index, sum_by}
use mathlib.Core.Option.{some}
use lib.ListN.{get_elem?}
use Rattle.atomic_table.specs.Table.{State}
use Rattle.flurry_steps_claims.specs.declared.seat_notes.SeatNotes.{SeatNotes}
use Rattle.flurry_base.specs.Occurrences.{occurrences}

-- how often the number k was claimed, and reported, by all seats together
abbrev pub claim_count : ℕ → List SeatNotes → ℕ
claim_count k seats = sum_by (λ (v : SeatNotes). occurrences k v.claims) seats

abbrev pub report_count : ℕ → List SeatNotes → ℕ
report_count k seats = sum_by (λ (v : SeatNotes). occurrences k v.reports) seats

-- how often some seat was told that its report was the last
abbrev pub last_report_count : List SeatNotes → ℕ
last_report_count seats = sum_by (λ (v : SeatNotes). v.last_reports) seats

-- 1 for a number below n, and else 0
abbrev pub one_below : ℕ → ℕ → ℕ
one_below n k = cond (ltb k n) 1 0

-- a seat reported only ranges that it claimed, and each once, and the number that it knows was reached
pub record IsSeat (reached : ℕ) (v : SeatNotes) : Type 0 where
  pub reports : (k : ℕ) → occurrences k v.reports ≤ occurrences k v.claims
  pub next : v.next ≤ reached

-- The numbers that the seats claimed are those below the next one, each once, and no more than there are ranges. The reports are those of
-- the seats. One report was told to be the last if all ranges are reported, and none before
pub record IsBoard (ranges next reports : ℕ) (seats : List SeatNotes) : Type 0 where
  pub within : next ≤ ranges
  pub claims : (k : ℕ) → claim_count k seats ≡ one_below next k
  pub seat : (i : ℕ) (v : SeatNotes) → get_elem? seats i ≡ some v → IsSeat next v
  pub count : reports ≡ sum_by (λ (v : SeatNotes). length v.reports) seats
  pub last : last_report_count seats ≡ cond (eqb reports ranges) 1 0

-- every range is claimed, and every range is reported, each once
abbrev pub AllClaimed : ℕ → List SeatNotes → Type 0
AllClaimed ranges seats = (k : ℕ) → k < ranges → claim_count k seats ≡ 1

abbrev pub AllReported : ℕ → List SeatNotes → Type 0
AllReported ranges seats = (k : ℕ) → k < ranges → report_count k seats ≡ 1

-- the rule of the atomic words
abbrev pub BoardRule : ℕ → State (Unit {0}) SeatNotes → Type 0
BoardRule ranges s = (length s.words ≡ 2) × IsBoard ranges (slice_index s.words 0) (slice_index s.words 1) s.views

-- a moment at which this was known of a seat: the board as it was then
pub record Moment (ranges : ℕ) (known : SeatNotes) : Type 0 where
  pub next : ℕ
  pub reports : ℕ
  pub seats : List SeatNotes
  pub place : ℕ
  pub board : IsBoard ranges next reports seats
  pub is_there : get_elem? seats place ≡ some known
