-- What each atomic step of a board tells the seat that does it.
use Rattle.std.specs.Prelude.{◌≡◌, ◌≢◌, ℕ, ◌+◌, ◌<◌, ◌≤◌, eqb, ◌↔◌, IsTrue}
use Rattle.atomic_table.specs.Table.{Me, Step}
use Rattle.flurry_steps_claims.specs.declared.seat_notes.SeatNotes.{SeatNotes}
use Rattle.flurry_steps_claims.specs.SeatNotes.{MayReport, new_notes, with_next, after_claim, notes_after_report}
use Rattle.flurry_steps_claims.specs.BoardRule.{Moment, AllReported}

abbrev pub SeatState : Type 0
SeatState = Me (Unit {0}) SeatNotes

-- a load by which a new seat begins
abbrev pub SitGives : Step (Unit {0}) → SeatState → ℕ → SeatState → Type 0
SitGives st m r m' = (m'.0 ≡ new_notes) × (m'.1 ≡ m.1)

-- over a board of so many ranges
module _ (ranges : ℕ) where
  -- a load finds the next number
  abbrev pub LoadGives : Step (Unit {0}) → SeatState → ℕ → SeatState → Type 0
  LoadGives st m r m' = (m'.0 ≡ with_next m.0 r) × (m.0.next ≤ r) × (r ≤ ranges) × ((now : Moment ranges m'.0) × (now.next ≡ r)) × (m'.1 ≡ m.1)

  -- a compare-exchange claims the number that it expects, or finds a greater one
  abbrev pub ExchangeGives : Step (Unit {0}) → SeatState → ℕ → SeatState → Type 0
  ExchangeGives st m r m' =
      (r ≡ st.first → (m'.0 ≡ after_claim m.0 r) × MayReport m'.0 r × Moment ranges m'.0)
      × (r ≢ st.first → (m'.0 ≡ with_next m.0 r) × (m.0.next < r) × (r ≤ ranges) × Moment ranges m'.0)
      × (m'.1 ≡ m.1)

  -- a fetch-add reports range k, and finds whether it is the last
  abbrev pub AddGives : ℕ → Step (Unit {0}) → SeatState → ℕ → SeatState → Type 0
  AddGives k st m r m' =
      (m'.0 ≡ notes_after_report m.0 k (eqb (r + 1) ranges)) × (r < ranges)
      × ((now : Moment ranges m'.0) × (IsTrue (eqb (r + 1) ranges) ↔ AllReported ranges now.seats)) × (m'.1 ≡ m.1)
