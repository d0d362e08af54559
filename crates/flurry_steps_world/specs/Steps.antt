-- What each call of a world does.
use Rattle.std.specs.Prelude.{◌≡◌, ℕ, pos, suc, [], ◌∷◌, ◌++◌, length, slice_get, slice_set, Option, Some, None, MatchOption}
use Rattle.std.specs.declared.cmp.Ordering.{Ordering}
use Rattle.flurry_steps_control.specs.Control.{ControlState}
use Rattle.flurry_steps_sweep.specs.Outcome.{Outcome, OutcomeReply, OutcomeEnded, OutcomeRefused}
use Rattle.flurry_steps_sweep.specs.Sweep.{SweepStage, AtEnd, AfterEnd}
use Rattle.flurry_steps_stages.specs.Stage.{Stage, AtSweep, AtDone, AtTaken, taken_stage, outcome_in, last_seen}
use Rattle.flurry_steps.specs.Party.{PartyState, with_stage, wanted_part}
use Rattle.flurry_steps.specs.PartyBoard.{lost}
use Rattle.flurry_steps_sweep.specs.declared.step.Event.{Event}
use Rattle.flurry_steps_sweep.specs.declared.step.Event.TheVariants.{Decide, Read, Wipe, Refused, Opened, Placed, Moved, Published, Silent}
use Rattle.flurry_base.specs.declared.call.Call.{Call}
use Rattle.flurry_base.specs.declared.call.Seen.{Seen}
use Rattle.flurry_base.specs.declared.verdict.Verdict.{Verdict}
use Rattle.flurry_steps_theory.specs.declared.Label.{Label}
use Rattle.flurry_steps_theory.specs.declared.Label.TheVariants as label
use Rattle.flurry_steps_world.specs.Tables.{Tables}
use Rattle.flurry_steps_world.specs.Parts.{PartStep}
use Rattle.flurry_steps_world.specs.World.{PartyRecord, WorldState}

module _ {K V F : Type 0} where
  -- the label of a decision
  abbrev pub decide_label : ℕ → Option (Outcome K V) → Label K V F
  decide_label p (Some (OutcomeReply r)) = label.Decide p r
  decide_label p _ = label.Silent p

  -- the label of a read of that pair
  abbrev pub read_label : ℕ → Option (Seen K V) → Label K V F
  read_label p None = label.Silent p
  read_label p (Some z) = label.Read p z.key z.value

  -- the label of party p's step with this event, which leaves it at that stage
  abbrev pub label_of : ℕ → Event → Stage K V F → Label K V F
  label_of p Decide s = decide_label p (outcome_in s)
  label_of p Read s = read_label p (last_seen s)
  label_of p (Wipe e i) s = label.Wipe p e i
  label_of p Refused s = label.Refused p
  label_of p (Opened e) s = label.Opened e
  label_of p (Placed e) s = label.Placed e
  label_of p (Moved e i) s = label.Moved e i
  label_of p (Published e) s = label.Published e
  label_of p Silent s = label.Silent p

  -- the closing label of a call that is done; a refused one has none
  abbrev pub closing_label : ℕ → Outcome K V → Label K V F
  closing_label p (OutcomeReply r) = label.Reply p r
  closing_label p OutcomeEnded = label.End p
  closing_label p OutcomeRefused = label.Silent p

  module _ (cmp : K → K → Ordering) (changes : F → K → Option V → Verdict V → Type 0) (p : ℕ) where
    -- party p does its step at the part that it wants
    pub record GoesOn (c : PartyState K V F) (b : ControlState) (t : Tables K V) (l : Label K V F) (c' : PartyState K V F) (b' : ControlState) (t' : Tables K V) : Type 0 where
      pub event : Event
      pub part : PartStep cmp changes (wanted_part c) c b t event c' b' t'
      pub label_is : l ≡ label_of p event c'.stage

    -- the same of a call that goes over all bins
    abbrev pub SweepStageStep : SweepStage K V → PartyState K V F → ControlState → Tables K V → Label K V F → PartyState K V F → ControlState → Tables K V → Type 0
    SweepStageStep (AtEnd r) c b t l c' b' t' = (l ≡ closing_label p r) × (c' ≡ with_stage c (taken_stage c.stage)) × (b' ≡ b) × (t' ≡ t)
    SweepStageStep AfterEnd c b t l c' b' t' = (l ≡ label.Silent p) × (c' ≡ c) × (b' ≡ b) × (t' ≡ t)
    SweepStageStep _ c b t l c' b' t' = GoesOn c b t l c' b' t'

    -- A step of party p, whose call stands at c, over the control b and the tables t: a call in progress does its step; one that is
    -- done replies or ends; one that has replied, has ended or was refused does nothing.
    abbrev pub StageStep : Stage K V F → PartyState K V F → ControlState → Tables K V → Label K V F → PartyState K V F → ControlState → Tables K V → Type 0
    StageStep (AtSweep w) c b t l c' b' t' = SweepStageStep w.stage c b t l c' b' t'
    StageStep (AtDone r) c b t l c' b' t' = (l ≡ closing_label p r) × (c' ≡ with_stage c AtTaken) × (b' ≡ b) × (t' ≡ t)
    StageStep AtTaken c b t l c' b' t' = (l ≡ label.Silent p) × (c' ≡ c) × (b' ≡ b) × (t' ≡ t)
    StageStep _ c b t l c' b' t' = GoesOn c b t l c' b' t'

module _ {K V F S : Type 0} where
  -- a world with these tables, where nobody has begun
  abbrev pub fresh_world : S → ℕ → Option ℕ → Tables K V → WorldState K V F S
  fresh_world hasher processors first tables = record {
    hasher = hasher;
    processors = processors;
    first = first;
    control_state = record { published = first; growth = None; count = pos 0 };
    tables = tables;
    party_records = [];
    trace = [];
  }

  -- the world with one more label
  abbrev pub with_label : WorldState K V F S → Label K V F → WorldState K V F S
  with_label w l = record {
    hasher = w.hasher;
    processors = w.processors;
    first = w.first;
    control_state = w.control_state;
    tables = w.tables;
    party_records = w.party_records;
    trace = w.trace ++ l ∷ [];
  }

  -- the world with one more call, which is the last party; it began with the last read of a walk, or with nobody's
  abbrev pub with_party_record : WorldState K V F S → Call K V F → Option ℕ → PartyState K V F → WorldState K V F S
  with_party_record w d from c = record {
    hasher = w.hasher;
    processors = w.processors;
    first = w.first;
    control_state = w.control_state;
    tables = w.tables;
    party_records = w.party_records ++ record { call = d; began_from = from; party_state = c; steps = 0 } ∷ [];
    trace = w.trace ++ label.Begin (length w.party_records) d ∷ [];
  }

  -- the world after an attempt of party p, which was x, was lost: that is no step of it
  abbrev pub with_loss : WorldState K V F S → ℕ → PartyRecord K V F → WorldState K V F S
  with_loss w p x = record {
    hasher = w.hasher;
    processors = w.processors;
    first = w.first;
    control_state = w.control_state;
    tables = w.tables;
    party_records = slice_set w.party_records p (record { call = x.call; began_from = x.began_from; party_state = lost x.party_state; steps = x.steps });
    trace = w.trace ++ label.Silent p ∷ [];
  }

  -- a loss of any party; an unknown one loses nothing
  abbrev pub WorldLoses : WorldState K V F S → ℕ → WorldState K V F S → Type 0
  WorldLoses w p w' = MatchOption (slice_get w.party_records p) (w' ≡ with_label w (label.Silent p)) (λ x. w' ≡ with_loss w p x)

  -- the world after one step of party p, which was x: its control and tables, where the call stands now, and the label
  abbrev pub with_step : WorldState K V F S → ℕ → PartyRecord K V F → ControlState → Tables K V → PartyState K V F → Label K V F → WorldState K V F S
  with_step w p x b t c l = record {
    hasher = w.hasher;
    processors = w.processors;
    first = w.first;
    control_state = b;
    tables = t;
    party_records = slice_set w.party_records p (record { call = x.call; began_from = x.began_from; party_state = c; steps = suc x.steps });
    trace = w.trace ++ l ∷ [];
  }

  module _ (cmp : K → K → Ordering) (changes : F → K → Option V → Verdict V → Type 0) where
    -- a step of party p, which is x: everything beside its call, the control and the tables stays, and there is one more label
    pub record RecordStep (w : WorldState K V F S) (p : ℕ) (x : PartyRecord K V F) (w' : WorldState K V F S) : Type 0 where
      pub step_label : Label K V F
      pub party_state : PartyState K V F
      pub control_state : ControlState
      pub tables : Tables K V
      pub stage_step : StageStep cmp changes p x.party_state.stage x.party_state w.control_state w.tables step_label party_state control_state tables
      pub after : w' ≡ with_step w p x control_state tables party_state step_label

    -- a step of any party; an unknown one does nothing
    abbrev pub WorldStep : WorldState K V F S → ℕ → WorldState K V F S → Type 0
    WorldStep w p w' = MatchOption (slice_get w.party_records p) (w' ≡ with_label w (label.Silent p)) (λ x. RecordStep w p x w')
