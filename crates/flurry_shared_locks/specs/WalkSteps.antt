-- What a step of a walk is over locks.
use Rattle.std.specs.Prelude.{◌≡◌, ℕ, ◌≤◌, true, Option, MatchOption}
use Rattle.std.specs.declared.cmp.Ordering.{Ordering}
use Rattle.flurry_bins_slots.specs.Slot.{SlotState, IsSlot}
use Rattle.flurry_steps_control.specs.Control.{ControlState}
use Rattle.flurry_steps_sweep.specs.Cursor.{at_base}
use Rattle.flurry_steps_sweep.specs.Part.{ControlPart, LookPart}
use Rattle.flurry_steps_sweep.specs.Sweep.{SweepState, OverBins, SweepControl, SweepStep, swept_part, is_at_start, with_stage}
use Rattle.flurry_steps_sweep.specs.declared.step.Event.{Event}
use Rattle.flurry_steps_sweep.specs.declared.step.Event.TheVariants as event
use Rattle.flurry_base.specs.declared.sizes.TheConstants.{MAX_TABLE}

-- One step of a walk, at a part that is lent to it under its lock: at the control, at a table that was published, in the control's place,
-- or at a slot. Between two steps other threads may have left any other part of its type there.
pub data WalkStep {K V : Type 0} (cmp : K → K → Ordering) (p : SweepState K V) (ev : Event) (p' : SweepState K V) : Type 0 where
  AtControl : (b b' : ControlState) → swept_part p ≡ ControlPart → SweepControl p b ev p' b' → WalkStep cmp p ev p'
  AtPublishedTable : (table : ℕ) → is_at_start p.stage ≡ true → table ≤ MAX_TABLE → ev ≡ event.Silent → p' ≡ with_stage p (OverBins (at_base table 0)) → WalkStep cmp p ev p'
  AtSlot : (q : SlotState K V) → swept_part p ≡ LookPart q.table q.index → IsSlot cmp q → SweepStep cmp p q ev p' q → WalkStep cmp p ev p'

-- a walk does its next step; or it stays, which it does not where it wants the control
abbrev pub WalksOrStays : {K V : Type 0} → (K → K → Ordering) → SweepState K V → Option Event → SweepState K V → Type 0
WalksOrStays cmp p o p' = MatchOption o ((swept_part p ≡ ControlPart → ⊥) × (p' ≡ p)) (λ ev. WalkStep cmp p ev p')
