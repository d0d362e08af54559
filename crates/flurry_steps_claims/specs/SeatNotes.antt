-- What is known of a seat, and how it changes.
use Rattle.std.specs.Prelude.{◌≡◌, ℕ, ◌+◌, ◌≤◌, Bool, cond, max, eqb, List, [], ◌∷◌, ◌++◌, count_by}
use Rattle.flurry_base.specs.Occurrences.{occurrences}
use Rattle.flurry_steps_claims.specs.declared.seat_notes.SeatNotes.{SeatNotes}

-- the seat claimed the range of this number, once, and did not report it yet
abbrev pub MayReport : SeatNotes → ℕ → Type 0
MayReport v k = (occurrences k v.claims ≡ 1) × (occurrences k v.reports ≡ 0)

-- of a new seat
abbrev pub new_notes : SeatNotes
new_notes = record { claims = []; reports = []; next = 0; last_reports = 0 }

-- of a seat that has learnt that n ranges are claimed
abbrev pub with_next : SeatNotes → ℕ → SeatNotes
with_next v n = record { claims = v.claims; reports = v.reports; next = n; last_reports = v.last_reports }

-- of a seat that has claimed range k
abbrev pub after_claim : SeatNotes → ℕ → SeatNotes
after_claim v k = record { claims = v.claims ++ k ∷ []; reports = v.reports; next = k + 1; last_reports = v.last_reports }

-- of a seat that has reported range k, and was told whether that was the last report
abbrev pub notes_after_report : SeatNotes → ℕ → Bool → SeatNotes
notes_after_report v k last = record { claims = v.claims; reports = v.reports ++ k ∷ []; next = v.next; last_reports = v.last_reports + cond last 1 0 }

-- of two seats that became one
abbrev pub joint_notes : SeatNotes → SeatNotes → SeatNotes
joint_notes v w = record { claims = v.claims ++ w.claims; reports = v.reports ++ w.reports; next = max v.next w.next; last_reports = v.last_reports + w.last_reports }

-- no range was claimed by both seats, nor twice by one of them, and at most one report of theirs was the last
abbrev pub NotesAreApart : SeatNotes → SeatNotes → Type 0
NotesAreApart v w = ((k : ℕ) → occurrences k v.claims + occurrences k w.claims ≤ 1) × (v.last_reports + w.last_reports ≤ 1)
