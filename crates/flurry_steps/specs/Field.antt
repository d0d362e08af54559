-- What a step of a call is over a field, which lends it one part of a map.
use Rattle.std.specs.Prelude.{◌≡◌, ◌⊎◌, ℕ, ℤ, ◌≤◌, Bool, true, Option, Some, None, MatchOption}
use Rattle.std.specs.declared.cmp.Ordering.{Ordering}
use Rattle.flurry_bins_slots.specs.Slot.{SlotState, IsSlot}
use Rattle.flurry_steps_control.specs.Control.{ControlState}
use Rattle.flurry_steps_sweep.specs.Part.{Part, ControlPart, LookPart, BinPart, MovePart, SeatPart, BoardPart, GivePart, NoPart}
use Rattle.flurry_steps_stages.specs.Stage.{is_locating, published_stage}
use Rattle.flurry_steps.specs.Party.{PartyState, with_stage, wanted_part}
use Rattle.flurry_steps.specs.PartyControl.{ControlStep}
use Rattle.flurry_steps.specs.PartySlots.{SlotStep, MoveStep}
use Rattle.flurry_steps.specs.PartyTally.{TallyStep}
use Rattle.flurry_steps.specs.PartyBoard.{BoardAnswer, BoardStep}
use Rattle.flurry_steps_sweep.specs.declared.step.Event.{Event}
use Rattle.flurry_steps_sweep.specs.declared.step.Event.TheVariants as event
use Rattle.flurry_base.specs.declared.sizes.TheConstants.{MAX_TABLE}
use Rattle.flurry_base.specs.declared.verdict.Verdict.{Verdict}

-- what is lent to one step, before and after that step
pub data Loan (K V R : Type 0) : Type 0 where
  -- the control, and the room where tables are made
  ControlLoan : (control_state : ControlState) (room : R) (board' : ControlState) (room' : R) → Loan K V R
  -- a table where the call may begin, in the control's place
  PublishedLoan : (table : ℕ) → Loan K V R
  -- a tally where the call counts, in the control's place, and how many pairs may wait there before the call looks at the control's count
  TallyLoan : (most waiting waiting' : ℤ) → Loan K V R
  -- a slot to read
  LookLoan : (slot : SlotState K V) → Loan K V R
  -- a slot to write
  BinLoan : (slot slot' : SlotState K V) → Loan K V R
  -- a slot and its halves
  MoveLoan : (slot low high slot' low' high' : SlotState K V) → Loan K V R
  -- the board of the growth from a table, or the seats there, and what the call is answered
  BoardLoan : (table : ℕ) (answer : BoardAnswer) → Loan K V R

-- the growth whose board, or a seat there, is the part
abbrev pub board_of : Part → Option ℕ
board_of (SeatPart e) = Some e
board_of (BoardPart e) = Some e
board_of (GivePart e) = Some e
board_of _ = None

module _ {K V F R : Type 0} (place : R → ℕ → Option ℕ → Bool → R → Type 0) (cmp : K → K → Ordering) (changes : F → K → Option V → Verdict V → Type 0) where
  -- the step of p with that loan, which is of the part that p wants: a call that asks for the published table may also be told a table,
  -- and one that counts a pair may also count it at a tally
  abbrev pub StepWith : Loan K V R → PartyState K V F → Event → PartyState K V F → Type 0
  StepWith (ControlLoan b r b' r') p ev p' = (wanted_part p ≡ ControlPart) × ControlStep place p b r ev p' b' r'
  StepWith (PublishedLoan d) p ev p' = (is_locating p.stage ≡ true) × (d ≤ MAX_TABLE) × (ev ≡ event.Silent) × (p' ≡ with_stage p (published_stage d p.stage))
  StepWith (TallyLoan m n n') p ev p' = TallyStep m p n ev p' n'
  StepWith (LookLoan q) p ev p' = (wanted_part p ≡ LookPart q.table q.index) × IsSlot cmp q × SlotStep cmp changes p q ev p' q
  StepWith (BinLoan q q') p ev p' = (wanted_part p ≡ BinPart q.table q.index) × IsSlot cmp q × SlotStep cmp changes p q ev p' q'
  StepWith (MoveLoan q low high q' low' high') p ev p' =
      (wanted_part p ≡ MovePart q.table q.index) × IsSlot cmp q × MoveStep p q low high ev p' q' low' high'
  StepWith (BoardLoan e x) p ev p' = (board_of (wanted_part p) ≡ Some e) × BoardStep p x ev p'

  -- one step of p, with one loan of the field
  pub record FieldStep {S : Type 0} (lends : S → Loan K V R → S → Type 0) (s : S) (p : PartyState K V F) (ev : Event) (s' : S) (p' : PartyState K V F) : Type 0 where
    pub loan : Loan K V R
    pub lent : lends s loan s'
    pub step : StepWith loan p ev p'

-- the call and the field stay, since the field lacks the part
pub record Stays {S K V F : Type 0} (lacks : S → Part → Type 0) (s : S) (p : PartyState K V F) (s' : S) (p' : PartyState K V F) : Type 0 where
  pub lacked : lacks s (wanted_part p)
  pub field : s' ≡ s
  pub party : p' ≡ p

-- the call and the field stay, since the call is done or the field lacks the part
pub record StaysOrDone {S K V F : Type 0} (lacks : S → Part → Type 0) (s : S) (p : PartyState K V F) (s' : S) (p' : PartyState K V F) : Type 0 where
  pub lacked : (wanted_part p ≡ NoPart) ⊎ lacks s (wanted_part p)
  pub field : s' ≡ s
  pub party : p' ≡ p

module _ {S K V F R : Type 0} (place : R → ℕ → Option ℕ → Bool → R → Type 0) (cmp : K → K → Ordering) (changes : F → K → Option V → Verdict V → Type 0) (lends : S → Loan K V R → S → Type 0) (lacks : S → Part → Type 0) where
  -- what a field does with a call that wants a part: it lends the part to one step of the call, or both stay
  abbrev pub StepsOrStays : S → PartyState K V F → Option Event → S → PartyState K V F → Type 0
  StepsOrStays s p o s' p' = MatchOption o (Stays lacks s p s' p') (λ ev. FieldStep place cmp changes lends s p ev s' p')

  -- what `act` does: one step of the call, or both stay
  abbrev pub ActsOrStays : S → PartyState K V F → Option Event → S → PartyState K V F → Type 0
  ActsOrStays s p o s' p' = MatchOption o (StaysOrDone lacks s p s' p') (λ ev. FieldStep place cmp changes lends s p ev s' p')
