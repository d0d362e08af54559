-- What a call of a board answers.
use Rattle.std.specs.Prelude.{◌≡◌, ℕ, ◌^◌, ◌<◌, ◌≤◌, Bool, [], ◌↔◌, IsTrue}
use Rattle.atomic_table.specs.declared.shared.Seat.{Seat}
use Rattle.atomic_table.specs.Seated.{TableId}
use Rattle.flurry_base.specs.declared.sizes.TheConstants.{MAX_TABLE}
use Rattle.flurry_base.specs.Sizes.{stride_of}
use Rattle.flurry_steps_claims.specs.declared.seat_notes.SeatNotes.{SeatNotes}
use Rattle.flurry_steps_claims.specs.declared.range.Attempt.{Attempt}
use Rattle.flurry_steps_claims.specs.declared.range.Attempt.TheVariants.{Got, Lost, Nothing}
use Rattle.flurry_steps_claims.specs.Range.{Bounds, IsNumber, range_at, range_count}
use Rattle.flurry_steps_claims.specs.SeatNotes.{MayReport, new_notes, with_next, after_claim, notes_after_report}
use Rattle.flurry_steps_claims.specs.BoardRule.{Moment, AllClaimed, AllReported}

-- what is known of a seat
abbrev pub notes_of : Seat (Unit {0}) SeatNotes → SeatNotes
notes_of seat = seat.me.0

-- what a board shows: which it is, the exponent of its table, and the bins of a range
pub record BoardValue : Type 0 where
  pub id : TableId
  pub table : ℕ
  pub stride : ℕ

-- what each board keeps: it has two words, whose rule is told the number of ranges; the table is not above the greatest, and a range has
-- bins
pub record IsClaimBoard (words told table stride ranges : ℕ) : Type 0 where
  pub two : words ≡ 2
  pub rule : told ≡ ranges
  pub cut : ranges ≡ range_count table stride
  pub greatest : table ≤ MAX_TABLE
  pub some : 0 < stride
  pub small : stride ≤ 2 ^ MAX_TABLE

-- the board of table e, whose ranges have a stride of p processors
abbrev pub IsBoardFor : ℕ → ℕ → BoardValue → Type 0
IsBoardFor e p board = (board.table ≡ e) × (board.stride ≡ stride_of (2 ^ e) p)

abbrev pub ranges_of : BoardValue → ℕ
ranges_of board = range_count board.table board.stride

-- a range of this board: its bounds are those of its number in the cut of this board's table by its stride
abbrev pub IsRangeOf : BoardValue → Bounds → Type 0
IsRangeOf board r = r ≡ range_at board.table board.stride r.number

-- a seat of this board, and a new one
abbrev pub IsSeatOf : BoardValue → Seat (Unit {0}) SeatNotes → Type 0
IsSeatOf board seat = (seat.table_id ≡ board.id) × (seat.me.1 ≡ [])

abbrev pub IsNewSeatOf : BoardValue → Seat (Unit {0}) SeatNotes → Type 0
IsNewSeatOf board seat = IsSeatOf board seat × (notes_of seat ≡ new_notes)

-- over a board
module _ (board : BoardValue) where
  -- An attempt claims the range of a number that the seat did not know to be claimed. Or it is lost, and the seat learns of a greater
  -- number. Or there is nothing, and every range was claimed at some moment
  abbrev pub Claims : SeatNotes → Attempt → SeatNotes → Type 0
  Claims v (Got r) w =
      IsNumber board.table board.stride r.number × IsRangeOf board r
      × (v.next ≤ r.number) × (w ≡ after_claim v r.number) × MayReport w r.number × Moment (ranges_of board) w
  Claims v Lost w = (w ≡ with_next v w.next) × (v.next < w.next) × (w.next ≤ ranges_of board) × Moment (ranges_of board) w
  Claims v Nothing w = (w ≡ with_next v (ranges_of board)) × (v.next ≤ w.next) × ((now : Moment (ranges_of board) w) × AllClaimed (ranges_of board) now.seats)

  -- a report of range k tells whether every range is reported now
  abbrev pub Reports : SeatNotes → ℕ → Bool → SeatNotes → Type 0
  Reports v k last w = (w ≡ notes_after_report v k last) × ((now : Moment (ranges_of board) w) × (IsTrue last ↔ AllReported (ranges_of board) now.seats))
