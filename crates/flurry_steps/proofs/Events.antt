-- A step of a call that does not go over all bins reads no pair of a walk, and wipes no bin.
use Rattle.std.specs.Prelude.{◌≡◌, ℕ, ◌+◌, Bool, true, false, if◌then◌else◌, Option, Some, None, MatchOption, ⊤}
use Rattle.std.specs.declared.cmp.Ordering.{Ordering}
use Rattle.std.proofs.Common.{subst}
use Rattle.flurry_bins_slots.specs.Slot.{Content, IsLive, HasMoved, IsUnborn, SlotState}
use Rattle.flurry_steps_control.specs.Control.{ControlState, BeginGives, grows_from, is_growing}
use Rattle.flurry_steps_control.specs.declared.control.BeginOutcome.{BeginOutcome}
use Rattle.flurry_steps_control.specs.declared.control.BeginOutcome.TheVariants as outcome
use Rattle.flurry_steps_sweep.specs.declared.step.Event.{Event}
use Rattle.flurry_steps_sweep.specs.declared.step.Event.TheVariants as event
use Rattle.flurry_steps_stages.specs.Help.{WantsSeat, AtBoard, Moving, Publishing, GivesBack}
use Rattle.flurry_steps_stages.specs.Stage.{Task, Finds, Removes, RemovesSeen, Inserts, Adds, Computes, Alters, GrowFor, ForInsert, ForReserve, Stage, AtLocate, AtBin, AtHelp, AtUncount, AtCount, AtRecount, AtBegin, AtGrow, AtReserve, AtSweep, AtDone, AtTaken, IsSingle, stage_grown}
use Rattle.flurry_steps.specs.Party.{PartyState}
use Rattle.flurry_steps.specs.PartyControl.{OpensFor, LocatesNone, MakesFor, StageAtControl, event_begun, event_growing, stage_growing}
use Rattle.flurry_steps.specs.PartyBoard.{BoardAnswer, BoardStep}
use Rattle.flurry_steps.specs.PartySlots.{LiveGives, ContentGives, StageAtSlot, MoveGives}
use Rattle.flurry_base.specs.declared.verdict.Verdict.{Verdict}

abbrev pub IsSweepEvent : Event → Type 0
IsSweepEvent event.Read = ⊤
IsSweepEvent (event.Wipe e i) = ⊤
IsSweepEvent _ = ⊥

-- what holds of no such event holds of another one
other_event : (P : Event → Type 0) → (P event.Read → ⊥) → ((e i : ℕ) → P (event.Wipe e i) → ⊥) → (ev : Event) → P ev → IsSweepEvent ev → ⊥
other_event P read wipe event.Read h u = read h
other_event P read wipe (event.Wipe e i) h u = wipe e i h
other_event P read wipe event.Decide h u = u
other_event P read wipe event.Refused h u = u
other_event P read wipe (event.Opened e) h u = u
other_event P read wipe (event.Placed e) h u = u
other_event P read wipe (event.Moved e i) h u = u
other_event P read wipe (event.Published e) h u = u
other_event P read wipe event.Silent h u = u

is_event : (ev d : Event) → (IsSweepEvent d → ⊥) → ev ≡ d → IsSweepEvent ev → ⊥
is_event ev d other same u = other (subst IsSweepEvent same u)

module _ {K V F R : Type 0} (place : R → ℕ → Option ℕ → Bool → R → Type 0) (p : ℕ) (m : Option ℕ) (b : ControlState) (r : R) (ev : Event) (st : Stage K V F) (b' : ControlState) (r' : R) where
  silent : ev ≡ event.Silent → IsSweepEvent ev → ⊥
  silent = is_event ev event.Silent (λ u. u)

  opens_for : (t : Task K V F) → OpensFor place p m t b r ev st b' r' → IsSweepEvent ev → ⊥
  opens_for t h = other_event (λ v. OpensFor place p m t b r v st b' r') (λ h. h) (λ e i h. h) ev h

  makes_for : (w : ℕ) → MakesFor place p m w b r ev st b' r' → IsSweepEvent ev → ⊥
  makes_for w h = other_event (λ v. MakesFor place p m w b r v st b' r') (λ h. h) (λ e i h. h) ev h

  none_yet : (t : Task K V F) → LocatesNone place p m t b r ev st b' r' → IsSweepEvent ev → ⊥
  none_yet (Finds w k) h = is_event ev event.Decide (λ u. u) h.0
  none_yet (Removes w k) h = is_event ev event.Decide (λ u. u) h.0
  none_yet (RemovesSeen z) h = is_event ev event.Decide (λ u. u) h.0
  none_yet (Inserts k v) h = opens_for (Inserts k v) h
  none_yet (Adds k v) h = opens_for (Adds k v) h
  none_yet (Computes k f) h = is_event ev event.Decide (λ u. u) h.0
  none_yet (Alters k true f) h = opens_for (Alters k true f) h
  none_yet (Alters k false f) h = is_event ev event.Decide (λ u. u) h.0

  located : (o : Option ℕ) (t : Task K V F) → MatchOption o (LocatesNone place p m t b r ev st b' r') (λ e. (ev ≡ event.Silent) × (st ≡ AtBin t e) × (b' ≡ b) × (r' ≡ r)) → IsSweepEvent ev → ⊥
  located None t h = none_yet t h
  located (Some e) t h = silent h.0

  published : (e : ℕ) (grows : Bool) → ev ≡ (if grows then event.Published (e + 1) else event.Silent) → IsSweepEvent ev → ⊥
  published e true h = is_event ev (event.Published (e + 1)) (λ u. u) h
  published e false h = silent h

  begun : (e : ℕ) (a : BeginOutcome) → ev ≡ event_begun e a → IsSweepEvent ev → ⊥
  begun e outcome.Begun h = is_event ev (event.Placed (e + 1)) (λ u. u) h
  begun e outcome.Refused h = silent h
  begun e outcome.Busy h = silent h

  growing : (e : ℕ) (g : GrowFor K V) (a : BeginOutcome) → ev ≡ event_growing e g a → IsSweepEvent ev → ⊥
  growing e g outcome.Begun h = is_event ev (event.Placed (e + 1)) (λ u. u) h
  growing e (ForInsert q) outcome.Refused h = silent h
  growing e ForReserve outcome.Refused h = is_event ev event.Refused (λ u. u) h
  growing e g outcome.Busy h = silent h

  grown : (o : Option ℕ) (w : ℕ) (g : GrowFor K V)
      → MatchOption o ((ev ≡ event.Silent) × (st ≡ stage_grown g) × (b' ≡ b) × (r' ≡ r)) (λ e. (a : BeginOutcome) × BeginGives place p e b r a b' r' × (ev ≡ event_growing e g a) × (st ≡ stage_growing e w g a)) → IsSweepEvent ev → ⊥
  grown None w g h = silent h.0
  grown (Some e) w g (a, gave, x, y) = growing e g a x

  reserved : (o : Option ℕ) (w : ℕ) → MatchOption o (MakesFor place p m w b r ev st b' r') (λ e. (ev ≡ event.Silent) × (st ≡ AtGrow w ForReserve) × (b' ≡ b) × (r' ≡ r)) → IsSweepEvent ev → ⊥
  reserved None w h = makes_for w h
  reserved (Some e) w h = silent h.0

  pub single_at_control : (s : Stage K V F) → IsSingle s → StageAtControl place p m s b r ev st b' r' → IsSweepEvent ev → ⊥
  single_at_control (AtLocate t) one h = located b.published t h
  single_at_control (AtBin t e) one h = absurd h
  single_at_control (AtHelp (WantsSeat e) a) one h = absurd h
  single_at_control (AtHelp (AtBoard e) a) one h = absurd h
  single_at_control (AtHelp (Moving c) a) one h = absurd h
  single_at_control (AtHelp (Publishing e) a) one h = published e (is_growing e b.growth) h.0
  single_at_control (AtHelp (GivesBack e) a) one h = absurd h
  single_at_control (AtUncount q) one h = silent h.0
  single_at_control (AtCount q) one h = silent h.0
  single_at_control (AtRecount q) one h = silent h.0
  single_at_control (AtBegin e q) one (a, gave, x, y) = begun e a x
  single_at_control (AtGrow w g) one h = grown (grows_from w b) w g h
  single_at_control (AtReserve a) one (w, sized, h) = reserved b.published w h
  single_at_control (AtSweep w) one h = absurd one
  single_at_control (AtDone q) one h = absurd h
  single_at_control AtTaken one h = absurd h

module _ {K V F : Type 0} (cmp : K → K → Ordering) (changes : F → K → Option V → Verdict V → Type 0) (n : ℕ) (ev : Event) (st : Stage K V F) (c' : Content K V) where
  content : (t : Task K V F) (e : ℕ) (c : Content K V) → ContentGives cmp changes n t e c ev st c' → IsSweepEvent ev → ⊥
  content t e (IsLive b) h = other_event (λ v. LiveGives cmp changes n t e b v st c') (λ h. h) (λ e i h. h) ev h
  content t e HasMoved h = is_event ev event.Silent (λ u. u) h.0
  content t e IsUnborn h = is_event ev event.Silent (λ u. u) h.0

  pub single_at_slot : (s : Stage K V F) (c : Content K V) → IsSingle s → StageAtSlot cmp changes n s c ev st c' → IsSweepEvent ev → ⊥
  single_at_slot (AtBin t e) c one h = content t e c h
  single_at_slot (AtLocate t) c one h = absurd h
  single_at_slot (AtHelp k a) c one h = absurd h
  single_at_slot (AtUncount q) c one h = absurd h
  single_at_slot (AtCount q) c one h = absurd h
  single_at_slot (AtRecount q) c one h = absurd h
  single_at_slot (AtBegin e q) c one h = absurd h
  single_at_slot (AtGrow w g) c one h = absurd h
  single_at_slot (AtReserve a) c one h = absurd h
  single_at_slot (AtSweep w) c one h = absurd one
  single_at_slot (AtDone q) c one h = absurd h
  single_at_slot AtTaken c one h = absurd h

pub single_at_move : {K V F : Type 0} (p : PartyState K V F) (q low high : SlotState K V) (ev : Event) (p' : PartyState K V F) (q' low' high' : SlotState K V) → MoveGives p q low high ev p' q' low' high' → IsSweepEvent ev → ⊥
single_at_move p q low high ev p' q' low' high' h = other_event (λ v. MoveGives p q low high v p' q' low' high') (λ h. h) (λ e i h. h) ev h

pub single_at_board : {K V F : Type 0} (p : PartyState K V F) (x : BoardAnswer) (ev : Event) (p' : PartyState K V F) → BoardStep p x ev p' → IsSweepEvent ev → ⊥
single_at_board p x ev p' h = is_event ev event.Silent (λ u. u) h.silent
