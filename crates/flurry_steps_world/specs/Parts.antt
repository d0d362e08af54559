-- The parts of a map, and one step of a call in progress at the part that it wants: the control, and the tables.
use Rattle.std.specs.Prelude.{◌≡◌, ℕ, pos, ◌+◌, ◌^◌, ◌≤◌, false, List, slice_get, slice_set, Option, Some, None, IsSome, MatchOption, ⊤}
use Rattle.std.specs.declared.cmp.Ordering.{Ordering}
use Rattle.flurry_bins_slots.specs.Slot.{SlotState, IsSlot, IsUnborn}
use Rattle.flurry_steps_claims.specs.PlainBoard.{has_seat, attempt_of, reports_last, board_after_take, after_attempt, after_report, after_give}
use Rattle.flurry_steps_claims.specs.declared.range.Attempt.TheVariants.{Nothing}
use Rattle.flurry_steps_control.specs.Control.{ControlState}
use Rattle.flurry_steps.specs.Field.{Loan, ControlLoan, PublishedLoan, TallyLoan, LookLoan, BinLoan, MoveLoan, BoardLoan}
use Rattle.flurry_steps_sweep.specs.Sweep.{IsUnderWay}
use Rattle.flurry_steps_sweep.specs.Part.{Part, ControlPart, LookPart, BinPart, MovePart, SeatPart, BoardPart, GivePart, NoPart}
use Rattle.flurry_steps_stages.specs.Stage.{Stage, AtSweep, AtDone, AtTaken}
use Rattle.flurry_steps.specs.Party.{PartyState}
use Rattle.flurry_steps.specs.PartyBoard.{BoardAnswer, Seated, Attempted, Reported, TakenBack, BoardStep}
use Rattle.flurry_steps.specs.PartyControl.{ControlStep}
use Rattle.flurry_steps.specs.PartySlots.{SlotStep, MoveStep}
use Rattle.flurry_steps_sweep.specs.declared.step.Event.{Event}
use Rattle.flurry_steps_world.specs.Tables.{Tables, no_tables, place_at, content_at, put_place, board_at, put_board, PlaceGives}
use Rattle.flurry_base.specs.declared.verdict.Verdict.{Verdict}

-- all parts of a map
pub record Parts (K V : Type 0) : Type 0 where
  pub control_state : ControlState
  pub tables : Tables K V

-- without a table
abbrev pub no_parts : {K V : Type 0} → Parts K V
no_parts = record { control_state = record { published = None; growth = None; count = pos 0 }; tables = no_tables }

-- the call is not done
abbrev pub IsGoing : {K V F : Type 0} → Stage K V F → Type 0
IsGoing (AtSweep w) = IsUnderWay w.stage
IsGoing (AtDone r) = ⊥
IsGoing AtTaken = ⊥
IsGoing _ = ⊤

-- The slots of that part are there. A call that needs a board is answered without one too.
abbrev pub IsThere : {K V : Type 0} → Tables K V → Part → Type 0
IsThere t ControlPart = ⊤
IsThere t (LookPart e i) = IsSome (place_at t e i)
IsThere t (BinPart e i) = IsSome (place_at t e i)
IsThere t (MovePart e i) = IsSome (place_at t e i) × IsSome (place_at t (e + 1) i) × IsSome (place_at t (e + 1) (i + 2 ^ e))
IsThere t NoPart = ⊥
IsThere t _ = ⊤

-- what a call is answered at the board of the growth from table e, and at the seats there, and what stays of the board; where there is none,
-- it finds no seat and nothing to claim, and no report is the last
abbrev pub BoardGives : {K V : Type 0} → ℕ → BoardAnswer → Tables K V → Tables K V → Type 0
BoardGives e (Seated got) t t' = MatchOption (board_at t e) ((got ≡ false) × (t' ≡ t)) (λ d. (got ≡ has_seat d) × (t' ≡ put_board t e (board_after_take d)))
BoardGives e (Attempted x) t t' = MatchOption (board_at t e) ((x ≡ Nothing) × (t' ≡ t)) (λ d. (x ≡ attempt_of d) × (t' ≡ put_board t e (after_attempt d)))
BoardGives e (Reported r last) t t' = MatchOption (board_at t e) ((last ≡ false) × (t' ≡ t)) (λ d. (last ≡ reports_last d r) × (t' ≡ put_board t e (after_report d r)))
BoardGives e TakenBack t t' = MatchOption (board_at t e) (t' ≡ t) (λ d. t' ≡ put_board t e (after_give d))

-- the call c does its step at the board of the growth from table e, or at the seats there
abbrev pub AtBoardOf : {K V F : Type 0} → ℕ → PartyState K V F → ControlState → Tables K V → Event → PartyState K V F → ControlState → Tables K V → Type 0
AtBoardOf e c b t ev c' b' t' = (x : BoardAnswer) × BoardStep c x ev c' × BoardGives e x t t' × (b' ≡ b)

module _ {K V F : Type 0} (cmp : K → K → Ordering) (changes : F → K → Option V → Verdict V → Type 0) where
  -- The call c does its step at that part, of the control b and the tables t, with that event. Every other part stays.
  abbrev pub PartStep : Part → PartyState K V F → ControlState → Tables K V → Event → PartyState K V F → ControlState → Tables K V → Type 0
  PartStep ControlPart c b t ev c' b' t' = ControlStep PlaceGives c b t ev c' b' t'
  PartStep (LookPart e i) c b t ev c' b' t' =
      (q : SlotState K V) × (place_at t e i ≡ Some q) × IsSlot cmp q × SlotStep cmp changes c q ev c' q × (b' ≡ b) × (t' ≡ t)
  PartStep (BinPart e i) c b t ev c' b' t' =
      (q q' : SlotState K V) × (place_at t e i ≡ Some q) × IsSlot cmp q × SlotStep cmp changes c q ev c' q' × (b' ≡ b) × (t' ≡ put_place t e i q')
  PartStep (MovePart e i) c b t ev c' b' t' =
      (q low high q' low' high' : SlotState K V)
      × (place_at t e i ≡ Some q) × (place_at t (e + 1) i ≡ Some low) × (place_at t (e + 1) (i + 2 ^ e) ≡ Some high)
      × IsSlot cmp q × MoveStep c q low high ev c' q' low' high' × (b' ≡ b)
      × (t' ≡ put_place (put_place (put_place t e i q') (e + 1) i low') (e + 1) (i + 2 ^ e) high')
  PartStep (SeatPart e) c b t ev c' b' t' = AtBoardOf e c b t ev c' b' t'
  PartStep (BoardPart e) c b t ev c' b' t' = AtBoardOf e c b t ev c' b' t'
  PartStep (GivePart e) c b t ev c' b' t' = AtBoardOf e c b t ev c' b' t'
  PartStep NoPart c b t ev c' b' t' = ⊥

-- the call c does its step at the slot q and its two halves, which are the slots i and j of the next table
abbrev pub HalvesStep : {K V F : Type 0} → PartyState K V F → SlotState K V → ℕ → ℕ → List (SlotState K V) → Event → PartyState K V F → SlotState K V → List (SlotState K V) → Type 0
HalvesStep {K} {V} c q i j ps ev c' q' ps' =
    (low high low' high' : SlotState K V)
    × (slice_get ps i ≡ Some low) × (slice_get ps j ≡ Some high)
    × MoveStep c q low high ev c' q' low' high'
    × (ps' ≡ slice_set (slice_set ps i low') j high')

-- ---- loans of parts

module _ {K V : Type 0} where
  -- a call may begin at table d: its exponent is at most the published one, and its bins have come to be
  pub record IsPublishedTable (s : Parts K V) (d : ℕ) : Type 0 where
    pub newest : ℕ
    pub published : s.control_state.published ≡ Some newest
    pub within : d ≤ newest
    pub born : content_at s.tables d 0 ≡ IsUnborn → ⊥

  -- What is lent stands among the parts, whose tables are those of the room, and what the step leaves of it is put back in its place;
  -- every other part stays. A table that is told in the control's place is one where a call may begin. No tally is among the parts.
  module _ {R : Type 0} (room : R → Tables K V) where
    abbrev pub IsOwn : Parts K V → Loan K V R → Parts K V → Type 0
    IsOwn s (ControlLoan b r b' r') s' = (s ≡ record { control_state = b; tables = room r }) × (s' ≡ record { control_state = b'; tables = room r' })
    IsOwn s (PublishedLoan d) s' = IsPublishedTable s d × (s' ≡ s)
    IsOwn s (TallyLoan m n n') s' = ⊥
    IsOwn s (LookLoan q) s' = (place_at s.tables q.table q.index ≡ Some q) × (s' ≡ s)
    IsOwn s (BinLoan q q') s' =
        (place_at s.tables q.table q.index ≡ Some q) × (s' ≡ record { control_state = s.control_state; tables = put_place s.tables q.table q.index q' })
    IsOwn s (MoveLoan q low high q' low' high') s' =
        (place_at s.tables q.table q.index ≡ Some q)
        × (place_at s.tables (q.table + 1) q.index ≡ Some low) × (place_at s.tables (q.table + 1) (q.index + 2 ^ q.table) ≡ Some high)
        × (s' ≡ record {
          control_state = s.control_state;
          tables = put_place (put_place (put_place s.tables q.table q.index q') (q.table + 1) q.index low') (q.table + 1) (q.index + 2 ^ q.table) high';
        })
    IsOwn s (BoardLoan e x) s' = BoardGives e x s.tables s'.tables × (s'.control_state ≡ s.control_state)

  -- a part itself is lent, and nothing in its place
  abbrev pub IsPart : {R : Type 0} → Loan K V R → Type 0
  IsPart (PublishedLoan d) = ⊥
  IsPart (TallyLoan m n n') = ⊥
  IsPart _ = ⊤

  -- what one owner lends is a part of its own, and what it does not lend is not there
  abbrev pub OwnLends : Parts K V → Loan K V (Tables K V) → Parts K V → Type 0
  OwnLends s l s' = IsPart l × IsOwn (λ r. r) s l s'

  abbrev pub OwnLacks : Parts K V → Part → Type 0
  OwnLacks s p = IsThere s.tables p → ⊥
