-- What a helper shows, and what it holds.
use Rattle.std.specs.Prelude.{◌≡◌, ℕ, Bool, false, Option, Some, None}
use Rattle.flurry_steps_claims.specs.declared.range.Attempt.{Attempt}
use Rattle.flurry_steps_claims.specs.declared.range.Attempt.TheVariants.{Got, Lost, Nothing}
use Rattle.flurry_steps_claims.specs.Range.{Bounds, IsNumber, is_range_at}
use Rattle.flurry_steps_claims.specs.SeatNotes.{MayReport}
use Rattle.flurry_steps_claims.specs.ClaimBoard.{BoardValue, IsSeatOf, notes_of}
use Rattle.flurry_steps_claims.specs.declared.seat_notes.SeatNotes.{SeatNotes}
use Rattle.atomic_table.specs.declared.shared.Seat.{Seat}

-- the board of a helper, its seat, and the number of the range that it holds
pub record HelperValue : Type 0 where
  pub board : BoardValue
  pub seat : Seat (Unit {0}) SeatNotes
  pub number : Option ℕ

-- the seat is one of the board, and may report the range, whose number is one of the board's
pub record IsHelper (h : HelperValue) : Type 0 where
  pub seated : IsSeatOf h.board h.seat
  pub may_report : (k : ℕ) → h.number ≡ Some k → MayReport (notes_of h.seat) k
  pub is_number : (k : ℕ) → h.number ≡ Some k → IsNumber h.board.table h.board.stride k

-- the number of the range that it holds, after an attempt
abbrev pub number_after : Attempt → Option ℕ → Option ℕ
number_after (Got r) held = Some r.number
number_after Lost held = held
number_after Nothing held = held

-- a helper of this board that holds the range of this number, or none, holds this range
abbrev pub holds : BoardValue → Option ℕ → Bounds → Bool
holds board None r = false
holds board (Some k) r = is_range_at board.table board.stride k r
