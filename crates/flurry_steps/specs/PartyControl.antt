-- What a step of a call is at the control.
use Rattle.std.specs.Prelude.{◌≡◌, ℕ, ◌+◌, ◌-◌, ◌^◌, Bool, true, false, Option, Some, None, if◌then◌else◌, pos, negsuc, ◌==◌, min, MatchOption}
use Rattle.flurry_steps_sweep.specs.Outcome.{Outcome, OutcomeReply, OutcomeRefused}
use Rattle.flurry_steps_sweep.specs.Sweep.{SweepState, SweepControl}
use Rattle.flurry_base.specs.declared.reply.KeptReply.TheVariants.{Value, Contains}
use Rattle.flurry_base.specs.declared.sizes.TheConstants.{FIRST_TABLE}
use Rattle.flurry_steps_sweep.specs.declared.step.Event.{Event}
use Rattle.flurry_steps_sweep.specs.declared.step.Event.TheVariants.{Silent, Decide, Refused, Opened, Placed, Published}
use Rattle.flurry_steps_control.specs.Control.{ControlState, is_growing, after_publish, after_count, advice_of, count_of, after_open, BeginGives, grows_from}
use Rattle.flurry_steps_control.specs.declared.control.Advice.{Advice}
use Rattle.flurry_steps_control.specs.declared.control.Advice.TheVariants.{Enough, Join, Begin}
use Rattle.flurry_steps_control.specs.declared.control.BeginOutcome.{BeginOutcome}
use Rattle.flurry_steps_stages.specs.Help.{WantsSeat, AtBoard, Publishing, GivesBack}
use Rattle.flurry_steps_stages.specs.Stage.{Task, GrowFor, Stage, Finds, Removes, RemovesSeen, Inserts, Adds, Computes, Alters, ForInsert, ForReserve, ThenRecount, ThenGrow, AtLocate, AtBin, AtHelp, AtUncount, AtCount, AtRecount, AtBegin, AtGrow, AtReserve, AtSweep, AtDone, reply_for, stage_grown}
use Rattle.flurry_steps.specs.Party.{PartyState, IsTableFor}
use Rattle.flurry_steps_control.specs.declared.control.BeginOutcome.TheVariants as begin

-- the growth from table e is the one that the call helped last
abbrev pub has_helped : ℕ → Option ℕ → Bool
has_helped e None = false
has_helped e (Some m) = m == e

module _ {K V F : Type 0} where
  -- the call begins a growth from the table that is published
  abbrev pub begin_at : Option ℕ → Outcome K V → Stage K V F
  begin_at None r = AtDone r
  begin_at (Some e) r = AtBegin e r

  -- the call follows what the control advised when table p was published: it joins a growth, but not the one that it helped last
  abbrev pub stage_advised : Option ℕ → Option ℕ → Outcome K V → Advice → Stage K V F
  stage_advised m p r Enough = AtDone r
  stage_advised m p r (Join e) = if has_helped e m then AtDone r else AtHelp (WantsSeat e) (ThenRecount r)
  stage_advised m p r Begin = begin_at p r

  -- the call tried to begin the growth from table e, which was advised: it has a seat there then
  abbrev pub stage_begun : ℕ → Outcome K V → BeginOutcome → Stage K V F
  stage_begun e r begin.Begun = AtHelp (AtBoard e) (ThenRecount r)
  stage_begun e r begin.Refused = AtDone r
  stage_begun e r begin.Busy = AtRecount r

  -- growing is refused: an insertion goes on, and a reserve is refused
  abbrev pub stage_not_grown : GrowFor K V → Stage K V F
  stage_not_grown (ForInsert r) = AtCount r
  stage_not_grown ForReserve = AtDone OutcomeRefused

  -- the call tried to begin the growth from table e on the way to table w: it has a seat there then
  abbrev pub stage_growing : ℕ → ℕ → GrowFor K V → BeginOutcome → Stage K V F
  stage_growing e w g begin.Begun = AtHelp (AtBoard e) (ThenGrow w g)
  stage_growing e w g begin.Refused = stage_not_grown g
  stage_growing e w g begin.Busy = stage_grown g

-- the event of a call that tried to begin a growth from table e, which was advised
abbrev pub event_begun : ℕ → BeginOutcome → Event
event_begun e begin.Begun = Placed (e + 1)
event_begun e _ = Silent

abbrev pub event_not_grown : {K V : Type 0} → GrowFor K V → Event
event_not_grown (ForInsert r) = Silent
event_not_grown ForReserve = Refused

-- the same of one that is on the way to a table
abbrev pub event_growing : {K V : Type 0} → ℕ → GrowFor K V → BeginOutcome → Event
event_growing e g begin.Begun = Placed (e + 1)
event_growing e g begin.Refused = event_not_grown g
event_growing e g begin.Busy = Silent

-- the event of a call that tried to publish the table after e
abbrev pub event_published : ℕ → ControlState → Event
event_published e b = if is_growing e b.growth then Published (e + 1) else Silent

-- over a room whose `place` is the relation, with p processors, of a call that helped the growth m last
module _ {K V F R : Type 0} (place : R → ℕ → Option ℕ → Bool → R → Type 0) (p : ℕ) (m : Option ℕ) where
  -- an insertion makes the first table, of 16 bins, or is refused
  abbrev pub OpensFor : Task K V F → ControlState → R → Event → Stage K V F → ControlState → R → Type 0
  OpensFor t b s (Opened e) st b' s' = (e ≡ FIRST_TABLE) × (st ≡ AtBin t FIRST_TABLE) × (b' ≡ after_open FIRST_TABLE b) × place s FIRST_TABLE None true s'
  OpensFor t b s Refused st b' s' = (st ≡ AtDone OutcomeRefused) × (b' ≡ b) × place s FIRST_TABLE None false s'
  OpensFor t b s _ st b' s' = ⊥

  -- on a map without a table a call that may add a pair makes one, and another call decides on the empty map
  abbrev pub LocatesNone : Task K V F → ControlState → R → Event → Stage K V F → ControlState → R → Type 0
  LocatesNone (Finds w k) b s ev st b' s' = (ev ≡ Decide) × (st ≡ AtDone (OutcomeReply (reply_for w None))) × (b' ≡ b) × (s' ≡ s)
  LocatesNone (Removes w k) b s ev st b' s' = (ev ≡ Decide) × (st ≡ AtDone (OutcomeReply (reply_for w None))) × (b' ≡ b) × (s' ≡ s)
  LocatesNone (RemovesSeen z) b s ev st b' s' = (ev ≡ Decide) × (st ≡ AtDone (OutcomeReply (Value None))) × (b' ≡ b) × (s' ≡ s)
  LocatesNone (Inserts k v) b s ev st b' s' = OpensFor (Inserts k v) b s ev st b' s'
  LocatesNone (Adds k v) b s ev st b' s' = OpensFor (Adds k v) b s ev st b' s'
  LocatesNone (Alters k true f) b s ev st b' s' = OpensFor (Alters k true f) b s ev st b' s'
  LocatesNone (Alters k false f) b s ev st b' s' = (ev ≡ Decide) × (st ≡ AtDone (OutcomeReply (Contains false))) × (b' ≡ b) × (s' ≡ s)
  LocatesNone (Computes k f) b s ev st b' s' = (ev ≡ Decide) × (st ≡ AtDone (OutcomeReply (Value None))) × (b' ≡ b) × (s' ≡ s)

  -- a reserve makes the first table, or is refused
  abbrev pub MakesFor : ℕ → ControlState → R → Event → Stage K V F → ControlState → R → Type 0
  MakesFor w b s (Opened e) st b' s' = (e ≡ w) × (st ≡ AtGrow w ForReserve) × (b' ≡ after_open w b) × place s w None true s'
  MakesFor w b s Refused st b' s' = (st ≡ AtDone OutcomeRefused) × (b' ≡ b) × place s w None false s'
  MakesFor w b s _ st b' s' = ⊥

  -- a reserve makes the first table of that exponent, or goes on to grow to it
  abbrev pub ReservesFor : ℕ → ControlState → R → Event → Stage K V F → ControlState → R → Type 0
  ReservesFor w b s ev st b' s' = MatchOption b.published (MakesFor w b s ev st b' s') (λ e. (ev ≡ Silent) × (st ≡ AtGrow w ForReserve) × (b' ≡ b) × (s' ≡ s))

  -- the step of a call at the control
  abbrev pub StageAtControl : Stage K V F → ControlState → R → Event → Stage K V F → ControlState → R → Type 0
  StageAtControl (AtLocate t) b s ev st b' s' =
      MatchOption b.published (LocatesNone t b s ev st b' s') (λ e. (ev ≡ Silent) × (st ≡ AtBin t e) × (b' ≡ b) × (s' ≡ s))
  StageAtControl (AtHelp (Publishing e) a) b s ev st b' s' =
      (ev ≡ event_published e b) × (st ≡ AtHelp (GivesBack e) a) × (b' ≡ after_publish e b) × (s' ≡ s)
  StageAtControl (AtUncount r) b s ev st b' s' = (ev ≡ Silent) × (st ≡ AtDone r) × (b' ≡ after_count (negsuc 0) b) × (s' ≡ s)
  StageAtControl (AtCount r) b s ev st b' s' =
      (ev ≡ Silent) × (st ≡ stage_advised m b.published r (advice_of (after_count (pos 1) b))) × (b' ≡ after_count (pos 1) b) × (s' ≡ s)
  StageAtControl (AtRecount r) b s ev st b' s' =
      (ev ≡ Silent) × (st ≡ stage_advised m b.published r (advice_of (after_count (pos 0) b))) × (b' ≡ after_count (pos 0) b) × (s' ≡ s)
  StageAtControl (AtBegin e r) b s ev st b' s' =
      (a : BeginOutcome) × BeginGives place p e b s a b' s' × (ev ≡ event_begun e a) × (st ≡ stage_begun e r a)
  StageAtControl (AtGrow w g) b s ev st b' s' =
      MatchOption (grows_from w b)
      ((ev ≡ Silent) × (st ≡ stage_grown g) × (b' ≡ b) × (s' ≡ s))
      (λ e. (a : BeginOutcome) × BeginGives place p e b s a b' s' × (ev ≡ event_growing e g a) × (st ≡ stage_growing e w g a))
  StageAtControl (AtReserve a) b s ev st b' s' =
      (w : ℕ) × IsTableFor (min (count_of b.count + a) (2 ^ 64 - 1)) w × ReservesFor w b s ev st b' s'
  StageAtControl (AtSweep w) b s ev st b' s' = (w' : SweepState K V) × (st ≡ AtSweep w') × SweepControl w b ev w' b' × (s' ≡ s)
  StageAtControl _ b s ev st b' s' = ⊥

-- the step of p at the control b, over the room s
pub record ControlStep {K V F R : Type 0} (place : R → ℕ → Option ℕ → Bool → R → Type 0) (p : PartyState K V F) (b : ControlState) (s : R) (ev : Event) (p' : PartyState K V F) (b' : ControlState) (s' : R) : Type 0 where
  pub hash : p'.hash ≡ p.hash
  pub processors : p'.processors ≡ p.processors
  pub helped : p'.helped ≡ p.helped
  pub step : StageAtControl place p.processors p.helped p.stage b s ev p'.stage b' s'
