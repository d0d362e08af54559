-- What a thread tells of its seat.
use Rattle.std.specs.Prelude.{◌≡◌, ◌<◌, true}
use Rattle.flurry_steps_claims.specs.declared.seat_notes.SeatNotes.{SeatNotes}
use Rattle.shared_board.specs.declared.share.Share.{Share}

-- the numbers are those of the ranges that the seat claimed, and one of its reports was the last where the share says so
abbrev pub IsShareOf : SeatNotes → Share → Type 0
IsShareOf v s = (v.claims ≡ s.numbers.items) × (s.was_last ≡ true → 0 < v.last_reports)
