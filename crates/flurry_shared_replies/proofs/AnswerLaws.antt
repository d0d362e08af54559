-- What a call of a shared map can answer.
use Rattle.std.specs.Prelude.{◌≡◌, ◌⊎◌, ℕ, ℤ, Bool, true, false, if◌then◌else◌, Option, Some, None, MatchOption, Ok, Err, length}
use Rattle.std.specs.Option.{option_map, option_map_or}
use Rattle.std.specs.declared.cmp.Ordering.{Ordering}
use Rattle.std.proofs.Common.{refl, sym, subst, inl, inr}
use Rattle.flurry_steps.specs.StepClosure.{StepClosure, still, further, StepsToReply}
use Rattle.flurry_base.specs.declared.call.Seen.{Seen}
use Rattle.flurry_base.specs.Verdicts.{Judges}
use Rattle.flurry_base.specs.declared.verdict.Verdict.{Verdict}
use Rattle.flurry_base.specs.declared.verdict.Verdict.TheVariants.{Keep, Set, Remove}
use Rattle.flurry_shared_replies.specs.Answers.{CanReserve, CanSweep, CanAnswer, CanAnswerFrom, NeedsOwner, HasForm}
use Rattle.flurry_bins_slots.specs.Slot as slot
use Rattle.flurry_bins_slots.specs.Slot.{PlainEntry, SlotState, Live, Content, IsLive, HasMoved, IsUnborn, ComputeOutcome, WasAbsent, WasRemoved, WasChanged, verdict_outcome, pair_of_entry, entry_of_live, Clashes, next_of_live}
use Rattle.flurry_steps_control.specs.Control.{ControlState, BeginGives, grows_from}
use Rattle.flurry_steps.specs.Field.{Loan, ControlLoan, PublishedLoan, TallyLoan, LookLoan, BinLoan, MoveLoan, BoardLoan, StepWith, FieldStep}
use Rattle.flurry_steps_sweep.specs.Outcome.{Outcome, OutcomeReply, OutcomeEnded, OutcomeRefused}
use Rattle.flurry_steps_sweep.specs.Sweep as sweep
use Rattle.flurry_steps_sweep.specs.Sweep.{SweepKind, Reads, Wipes, SweepStage, AtSweepStart, OverBins, AtTotal, AtEnd, AfterEnd, BinGives, WalkGives, ClearGives, ReadGives, SplitGives, start_stage_at, stage_walked, stage_cleared, more_wiped, swept_outcome, is_at_start}
use Rattle.flurry_steps_sweep.specs.Cursor.{CursorState, after_top}
use Rattle.flurry_steps_stages.specs.Stage as stage
use Rattle.flurry_steps_stages.specs.Help.{Help, WantsSeat, AtBoard, Moving, Publishing, GivesBack}
use Rattle.flurry_steps_stages.specs.Stage.{AnswerForm, TheValue, ThePair, Presence, Task, Finds, Removes, RemovesSeen, Inserts, Adds, Computes, Alters, GrowFor, ForInsert, ForReserve, Resume, ThenBin, ThenRecount, ThenGrow, Stage, AtLocate, AtBin, AtHelp, AtUncount, AtCount, AtRecount, AtBegin, AtGrow, AtReserve, AtSweep, AtDone, AtTaken, reply_for, resumed_stage, published_stage, final_outcome, stage_of_call, stage_grown}
use Rattle.flurry_steps.specs.Party.{PartyState, with_stage}
use Rattle.flurry_steps.specs.PartyControl.{has_helped, begin_at, stage_advised, stage_begun, stage_not_grown, stage_growing, OpensFor, LocatesNone, MakesFor, event_growing, StageAtControl}
use Rattle.flurry_steps.specs.PartySlots.{GoesOnNew, GoesOnWritten, GoesOnAdded, GoesOnAltered, stage_taken, stage_computed, stage_moved, FindCanBeRefused, CanBeRefused, DecidesAt, LiveGives, ContentGives, StageAtSlot, moved_stage, MoveGives}
use Rattle.flurry_steps.specs.PartyBoard.{BoardAnswer, stage_helping, stage_answered}
use Rattle.flurry_steps.specs.PartyTally.{StageAtTally}
use Rattle.flurry_steps_stages.specs.CallView.{plain_call}
use Rattle.flurry_steps_control.specs.declared.control.Advice.{Advice}
use Rattle.flurry_steps_control.specs.declared.control.Advice.TheVariants as advice
use Rattle.flurry_steps_control.specs.declared.control.BeginOutcome.{BeginOutcome}
use Rattle.flurry_steps_control.specs.declared.control.BeginOutcome.TheVariants as began
use Rattle.flurry_steps_sweep.specs.declared.step.Event.{Event}
use Rattle.flurry_steps_stages.specs.declared.call.Call.{Call}
use Rattle.flurry_steps_stages.specs.declared.call.Call.TheVariants as call
use Rattle.flurry_steps_sweep.specs.declared.step.Event.TheVariants as event

-- what tells of an entry is of its sort
has_form : {K V : Type 0} (w : AnswerForm) (e : Option (PlainEntry K V)) → HasForm w (reply_for w e)
has_form TheValue e = tt
has_form ThePair e = tt
has_form Presence e = tt

-- only what hands out a further owner is refused
needs_owner : {K V : Type 0} (w : AnswerForm) (e : Option (PlainEntry K V)) → FindCanBeRefused w e → NeedsOwner w
needs_owner TheValue e h = tt
needs_owner ThePair e h = tt
needs_owner Presence e h = h

module _ {K V F : Type 0} (changes : F → K → Option V → Verdict V → Type 0) (answers : Outcome K V → Type 0) where
  -- the call can still answer what its task can, or its reply is among the answers
  abbrev Serves : Task K V F → Type 0
  Serves t = (r : Outcome K V) → CanAnswer changes t r → answers r

  abbrev Reserves : Type 0
  Reserves = (r : Outcome K V) → CanReserve r → answers r

  abbrev GrowForServes : GrowFor K V → Type 0
  GrowForServes (ForInsert r) = answers r
  GrowForServes ForReserve = Reserves

  abbrev ResumeServes : Resume K V F → Type 0
  ResumeServes (ThenBin t e) = Serves t
  ResumeServes (ThenRecount r) = answers r
  ResumeServes (ThenGrow w g) = GrowForServes g

  -- a call that goes over all bins, which may answer what such a call can until it has ended
  abbrev Sweeps : SweepKind → Type 0
  Sweeps w = (r : Outcome K V) → CanSweep w r → answers r

  abbrev SweepServes : SweepStage K V → SweepKind → Type 0
  SweepServes (AtEnd r) w = answers r
  SweepServes s w = Sweeps w

  abbrev StageServes : Stage K V F → Type 0
  StageServes (AtLocate t) = Serves t
  StageServes (AtBin t e) = Serves t
  StageServes (AtHelp k a) = ResumeServes a
  StageServes (AtUncount r) = answers r
  StageServes (AtCount r) = answers r
  StageServes (AtRecount r) = answers r
  StageServes (AtBegin e r) = answers r
  StageServes (AtGrow w g) = GrowForServes g
  StageServes (AtReserve a) = Reserves
  StageServes (AtSweep w) = SweepServes w.stage w.kind
  StageServes (AtDone r) = answers r
  StageServes AtTaken = ⊥

  -- ---- stages that follow

  served : (s : Stage K V F) (r : Outcome K V) → StageServes s → final_outcome s ≡ Some r → answers r
  served (AtLocate t) r h e = cc
  served (AtBin t n) r h e = cc
  served (AtHelp k a) r h e = cc
  served (AtUncount q) r h e = cc
  served (AtCount q) r h e = cc
  served (AtRecount q) r h e = cc
  served (AtBegin n q) r h e = cc
  served (AtGrow w g) r h e = cc
  served (AtReserve a) r h e = cc
  served (AtSweep w) r h e = by_end w.stage h e
    where
      by_end : (z : SweepStage K V) → SweepServes z w.kind → swept_outcome z ≡ Some r → answers r
      by_end AtSweepStart h e = cc
      by_end (OverBins c) h e = cc
      by_end AtTotal h e = cc
      by_end (AtEnd q) h e = let one : q ≡ r = cc in subst answers one h
      by_end AfterEnd h e = cc
  served (AtDone q) r h e = let one : q ≡ r = cc in subst answers one h
  served AtTaken r h e = cc

  after_help : (a : Resume K V F) → ResumeServes a → StageServes (resumed_stage a)
  after_help (ThenBin t e) h = h
  after_help (ThenRecount r) h = h
  after_help (ThenGrow w g) h = h

  at_begin : (p : Option ℕ) (r : Outcome K V) → answers r → StageServes (begin_at p r)
  at_begin None r h = h
  at_begin (Some e) r h = h

  at_join : (helped : Bool) (e : ℕ) (r : Outcome K V) → answers r → StageServes (if helped then AtDone r else AtHelp (WantsSeat e) (ThenRecount r))
  at_join true e r h = h
  at_join false e r h = h

  after_advice : (m p : Option ℕ) (r : Outcome K V) (a : Advice) → answers r → StageServes (stage_advised m p r a)
  after_advice m p r advice.Enough h = h
  after_advice m p r (advice.Join e) h = at_join (has_helped e m) e r h
  after_advice m p r advice.Begin h = at_begin p r h

  after_begun : (e : ℕ) (r : Outcome K V) (a : BeginOutcome) → answers r → StageServes (stage_begun e r a)
  after_begun e r began.Begun h = h
  after_begun e r began.Refused h = h
  after_begun e r began.Busy h = h

  after_grown : (g : GrowFor K V) → GrowForServes g → StageServes (stage_grown g)
  after_grown (ForInsert r) h = h
  after_grown ForReserve h = h OutcomeEnded tt

  after_not_grown : (g : GrowFor K V) → GrowForServes g → StageServes (stage_not_grown g)
  after_not_grown (ForInsert r) h = h
  after_not_grown ForReserve h = h OutcomeRefused tt

  after_growing : (e w : ℕ) (g : GrowFor K V) (a : BeginOutcome) → GrowForServes g → StageServes (stage_growing e w g a)
  after_growing e w g began.Begun h = h
  after_growing e w g began.Refused h = after_not_grown g h
  after_growing e w g began.Busy h = after_grown g h

  after_turn : (o : Option Help) (a : Resume K V F) → ResumeServes a → StageServes (stage_helping o a)
  after_turn None a h = after_help a h
  after_turn (Some k) a h = h

  after_answer : (x : BoardAnswer) (s : Stage K V F) → StageServes s → StageServes (stage_answered x s)
  after_answer x (AtLocate t) h = h
  after_answer x (AtBin t e) h = h
  after_answer x (AtHelp k a) h = after_turn _ a h
  after_answer x (AtUncount r) h = h
  after_answer x (AtCount r) h = h
  after_answer x (AtRecount r) h = h
  after_answer x (AtBegin e r) h = h
  after_answer x (AtGrow w g) h = h
  after_answer x (AtReserve a) h = h
  after_answer x (AtSweep w) h = h
  after_answer x (AtDone r) h = h
  after_answer x AtTaken h = h

  with_moved : (s : Stage K V F) → StageServes s → StageServes (moved_stage s)
  with_moved (AtLocate t) h = h
  with_moved (AtBin t e) h = h
  with_moved (AtHelp k a) h = h
  with_moved (AtUncount r) h = h
  with_moved (AtCount r) h = h
  with_moved (AtRecount r) h = h
  with_moved (AtBegin e r) h = h
  with_moved (AtGrow w g) h = h
  with_moved (AtReserve a) h = h
  with_moved (AtSweep w) h = h
  with_moved (AtDone r) h = h
  with_moved AtTaken h = h

  at_outset : (w : SweepKind) (z : SweepStage K V) → is_at_start z ≡ true → SweepServes z w → Sweeps w
  at_outset w AtSweepStart yet h = h
  at_outset w (OverBins c) yet h = cc
  at_outset w AtTotal yet h = cc
  at_outset w (AtEnd r) yet h = cc
  at_outset w AfterEnd yet h = cc

  after_start : (d : ℕ) (s : Stage K V F) → stage.is_locating s ≡ true → StageServes s → StageServes (published_stage d s)
  after_start d (AtLocate t) yet h = h
  after_start d (AtBin t e) yet h = h
  after_start d (AtHelp k a) yet h = h
  after_start d (AtUncount r) yet h = h
  after_start d (AtCount r) yet h = h
  after_start d (AtRecount r) yet h = h
  after_start d (AtBegin e r) yet h = h
  after_start d (AtGrow w g) yet h = h
  after_start d (AtReserve a) yet h = h
  after_start d (AtSweep w) yet h = at_outset w.kind w.stage yet h
  after_start d (AtDone r) yet h = h
  after_start d AtTaken yet h = h

  after_moved : (t : Task K V F) (e : ℕ) → Serves t → StageServes (stage_moved t e)
  after_moved (Finds w k) e h = h
  after_moved (Removes w k) e h = h
  after_moved (RemovesSeen z) e h = h
  after_moved (Inserts k v) e h = h
  after_moved (Adds k v) e h = h
  after_moved (Computes k f) e h = h
  after_moved (Alters k may_add f) e h = h

  -- ---- at the control

  module _ {R : Type 0} (place : R → ℕ → Option ℕ → Bool → R → Type 0) (p : ℕ) (m : Option ℕ) (b : ControlState) (s : R) (st : Stage K V F) (b' : ControlState) (s' : R) where
    opens : (t : Task K V F) → Serves t → CanAnswer changes t OutcomeRefused → (ev : Event) → OpensFor place p m t b s ev st b' s' → StageServes st
    opens t h r (event.Opened e) g = subst StageServes (sym g.1) h
    opens t h r event.Refused g = subst StageServes (sym g.0) (h OutcomeRefused r)
    opens t h r event.Decide g = absurd g
    opens t h r (event.Placed e) g = absurd g
    opens t h r (event.Moved e i) g = absurd g
    opens t h r event.Read g = absurd g
    opens t h r (event.Wipe _ _) g = absurd g
    opens t h r (event.Published e) g = absurd g
    opens t h r event.Silent g = absurd g

    none : (t : Task K V F) (ev : Event) → Serves t → LocatesNone place p m t b s ev st b' s' → StageServes st
    none (Finds w k) ev h g = subst StageServes (sym g.1) (h (OutcomeReply (reply_for w None)) (has_form w None))
    none (Removes w k) ev h g = subst StageServes (sym g.1) (h (OutcomeReply (reply_for w None)) (has_form w None))
    none (RemovesSeen z) ev h g = subst StageServes (sym g.1) (h (OutcomeReply (reply_for TheValue None)) tt)
    none (Inserts k v) ev h g = opens (Inserts k v) h tt ev g
    none (Adds k v) ev h g = opens (Adds k v) h tt ev g
    none (Computes k f) ev h g = subst StageServes (sym g.1) (h _ tt)
    none (Alters k true f) ev h g = opens (Alters k true f) h tt ev g
    none (Alters k false f) ev h g = subst StageServes (sym g.1) (h _ tt)

    makes : (w : ℕ) (ev : Event) → Reserves → MakesFor place p m w b s ev st b' s' → StageServes st
    makes w (event.Opened e) h g = subst StageServes (sym g.1) h
    makes w event.Refused h g = subst StageServes (sym g.0) (h OutcomeRefused tt)
    makes w event.Decide h g = absurd g
    makes w (event.Placed e) h g = absurd g
    makes w (event.Moved e i) h g = absurd g
    makes w event.Read h g = absurd g
    makes w (event.Wipe _ _) h g = absurd g
    makes w (event.Published e) h g = absurd g
    makes w event.Silent h g = absurd g

    is_locating : (t : Task K V F) (ev : Event) (o : Option ℕ) → Serves t → MatchOption o (LocatesNone place p m t b s ev st b' s') (λ e. (ev ≡ event.Silent) × (st ≡ AtBin t e) × (b' ≡ b) × (s' ≡ s)) → StageServes st
    is_locating t ev None h g = none t ev h g
    is_locating t ev (Some e) h g = subst StageServes (sym g.1) h

    reserves : (w : ℕ) (ev : Event) (o : Option ℕ) → Reserves → MatchOption o (MakesFor place p m w b s ev st b' s') (λ e. (ev ≡ event.Silent) × (st ≡ AtGrow w ForReserve) × (b' ≡ b) × (s' ≡ s)) → StageServes st
    reserves w ev None h g = makes w ev h g
    reserves w ev (Some e) h g = subst StageServes (sym g.1) h

    grows : (w : ℕ) (g : GrowFor K V) (ev : Event) (o : Option ℕ) → GrowForServes g
        → MatchOption o ((ev ≡ event.Silent) × (st ≡ stage_grown g) × (b' ≡ b) × (s' ≡ s)) (λ e. (a : BeginOutcome) × BeginGives place p e b s a b' s' × (ev ≡ event_growing e g a) × (st ≡ stage_growing e w g a)) → StageServes st
    grows w g ev None h x = subst StageServes (sym x.1) (after_grown g h)
    grows w g ev (Some e) h x = subst StageServes (sym x.3) (after_growing e w g x.0 h)

    at_control : (c : Stage K V F) (ev : Event) → StageServes c → StageAtControl place p m c b s ev st b' s' → StageServes st
    at_control (AtLocate t) ev h g = is_locating t ev b.published h g
    at_control (AtBin t e) ev h g = absurd g
    at_control (AtHelp (WantsSeat e) a) ev h g = absurd g
    at_control (AtHelp (AtBoard e) a) ev h g = absurd g
    at_control (AtHelp (Moving c) a) ev h g = absurd g
    at_control (AtHelp (Publishing e) a) ev h g = subst StageServes (sym g.1) h
    at_control (AtHelp (GivesBack e) a) ev h g = absurd g
    at_control (AtUncount r) ev h g = subst StageServes (sym g.1) h
    at_control (AtCount r) ev h g = subst StageServes (sym g.1) (after_advice m _ r _ h)
    at_control (AtRecount r) ev h g = subst StageServes (sym g.1) (after_advice m _ r _ h)
    at_control (AtBegin e r) ev h g = subst StageServes (sym g.3) (after_begun e r g.0 h)
    at_control (AtGrow w x) ev h g = grows w x ev (grows_from w b) h g
    at_control (AtReserve a) ev h g = reserves g.0 ev b.published h g.2
    at_control (AtSweep w) ev h (w', same, g, _) = subst StageServes (sym same) (subst (SweepServes w'.stage) (sym g.kind) (after_control w.kind w.stage h g.step))
      where
        start_stage : (u : SweepKind) (o : Option ℕ) → Sweeps u → CanSweep {K = K} {V = V} u OutcomeEnded → SweepServes (start_stage_at o) u
        start_stage u None h can = h OutcomeEnded can
        start_stage u (Some e) h can = h

        after_control : (u : SweepKind) (z : SweepStage K V) → SweepServes z u → sweep.StageAtControl u z b w'.stage b' → SweepServes w'.stage u
        after_control Reads AtSweepStart h g = subst (λ z. SweepServes z Reads) (sym g.0) (start_stage Reads b.published h tt)
        after_control (Wipes n) AtSweepStart h g = subst (λ z. SweepServes z (Wipes n)) (sym g.0) (start_stage (Wipes n) b.published h tt)
        after_control (Wipes n) AtTotal h g = subst (λ z. SweepServes z (Wipes n)) (sym g.0) (h OutcomeEnded tt)
        after_control Reads AtTotal h g = absurd g
        after_control Reads (OverBins f) h g = absurd g
        after_control (Wipes n) (OverBins f) h g = absurd g
        after_control Reads (AtEnd r) h g = absurd g
        after_control (Wipes n) (AtEnd r) h g = absurd g
        after_control Reads AfterEnd h g = absurd g
        after_control (Wipes n) AfterEnd h g = absurd g
    at_control (AtDone r) ev h g = absurd g
    at_control AtTaken ev h g = absurd g

  -- ---- at a tally

  after_tally : (b : Bool) (r : Outcome K V) → answers r → StageServes (if b then AtRecount r else AtDone r)
  after_tally true r h = h
  after_tally false r h = h

  at_tally : (most n : ℤ) (st : Stage K V F) (n' : ℤ) (s : Stage K V F) → StageServes s → StageAtTally most s n st n' → StageServes st
  at_tally most n st n' (AtUncount r) h g = subst StageServes (sym g.0) h
  at_tally most n st n' (AtCount r) h g = subst StageServes (sym g.0) (after_tally _ r h)
  at_tally most n st n' (AtLocate t) h g = absurd g
  at_tally most n st n' (AtBin t e) h g = absurd g
  at_tally most n st n' (AtHelp k a) h g = absurd g
  at_tally most n st n' (AtRecount r) h g = absurd g
  at_tally most n st n' (AtBegin e r) h g = absurd g
  at_tally most n st n' (AtGrow w g') h g = absurd g
  at_tally most n st n' (AtReserve a) h g = absurd g
  at_tally most n st n' (AtSweep w) h g = absurd g
  at_tally most n st n' (AtDone r) h g = absurd g
  at_tally most n st n' AtTaken h g = absurd g

  -- ---- at a slot

  after_new : (e : ℕ) (r : Outcome K V) (asked : Bool) (s : Stage K V F) → answers r → GoesOnNew e r asked s → StageServes s
  after_new e r true s h g = subst StageServes (sym g.2) h
  after_new e r false s h g = subst StageServes (sym g) h

  after_written : (e : ℕ) (o : Option V) (asked : Bool) (s : Stage K V F) (k : K) (v : V) → Serves (Inserts k v) → GoesOnWritten e (o, asked) s → StageServes s
  after_written e None asked s k v h g = after_new e _ asked s (h _ tt) g
  after_written e (Some w) asked s k v h g = subst StageServes (sym g) (h _ tt)

  after_added : (e : ℕ) (o : Option V) (asked : Bool) (s : Stage K V F) (k : K) (v : V) → Serves (Adds k v) → GoesOnAdded e (option_map_or (λ (current : V). Err (current, v)) o (Ok (v, asked))) s → StageServes s
  after_added e None asked s k v h g = after_new e _ asked s (h _ refl) g
  after_added e (Some w) asked s k v h g = subst StageServes (sym g) (h _ refl)

  after_taken : (w : AnswerForm) (k : K) (o : Option (PlainEntry K V)) → Serves (Removes w k) → StageServes (stage_taken w o)
  after_taken w k None h = h _ (has_form w None)
  after_taken w k (Some x) h = h _ (has_form w (Some x))

  after_drop : (z : Seen K V) (o : Option (PlainEntry K V)) → Serves (RemovesSeen z) → StageServes (stage_taken TheValue o)
  after_drop z None h = h _ tt
  after_drop z (Some x) h = h _ tt

  after_altered : (k : K) (may_add : Bool) (f : F) (e : ℕ) (asked : Bool) (x : Option (PlainEntry K V)) (v : Verdict V) (s : Stage K V F)
      → Serves (Alters k may_add f) → Judges changes f k may_add (option_map pair_of_entry x) v → GoesOnAltered e (verdict_outcome asked x v) s → StageServes s
  after_altered k true f e asked None Keep s h j g = subst StageServes (sym g) (h _ (inl j))
  after_altered k true f e asked None (Set w) s h j g = after_new e _ asked s (h _ (refl, j)) g
  after_altered k true f e asked None Remove s h j g = subst StageServes (sym g) (h _ (inr j))
  after_altered k false f e asked None Keep s h j g = subst StageServes (sym g) (h _ tt)
  after_altered k false f e asked None (Set w) s h j g = let clash : Set w ≡ Keep = j in cc
  after_altered k false f e asked None Remove s h j g = let clash : ◌≡◌ {A = Verdict V} Remove Keep = j in cc
  after_altered k may_add f e asked (Some x) Keep s h j g = subst StageServes (sym g) (h _ (x.0.1, x.1.0, j))
  after_altered k may_add f e asked (Some x) (Set w) s h j g = subst StageServes (sym g) (h _ (x.0.1, j))
  after_altered k may_add f e asked (Some x) Remove s h j g = subst StageServes (sym g) (h _ j)

  -- an alteration of a present pair is refused only where the function set a value
  alter_refused : (k : K) (f : F) (x : Option (PlainEntry K V)) (w : V) → Judges changes f k false (option_map pair_of_entry x) (Set w) → CanAnswer changes (Alters k false f) OutcomeRefused
  alter_refused k f None w j = let clash : Set w ≡ Keep = j in cc
  alter_refused k f (Some x) w j = (x.0.1, x.1.0, w, j)

  module _ (cmp : K → K → Ordering) (n : ℕ) where
    after_computed : (k : K) (f : F) (bins : ℕ) (b c : Live K V) (o : ComputeOutcome V) → Serves (Computes k f) → slot.Computes cmp (changes f) bins b n k o c → StageServes (stage_computed o)
    after_computed k f bins b c WasAbsent h g = h _ tt
    after_computed k f bins b c WasRemoved h g = h _ tt
    after_computed k f bins b c (WasChanged w) h g = h _ (g.0.0.1, g.0.1.0, g.2)

    decides : (t : Task K V F) (e : ℕ) (b d : Live K V) (s : Stage K V F) → Serves t → DecidesAt cmp changes n t e b s d → StageServes s
    decides (Finds w k) e b d s h g = subst StageServes (sym g.0) (h _ (has_form w _))
    decides (Removes w k) e b d s h g = subst StageServes (sym g.0) (after_taken w k _ h)
    decides (RemovesSeen z) e b d s h g = subst StageServes (sym g.0) (after_drop z _ h)
    decides (Inserts k v) e b d s h g = after_written e _ _ s k v h g.0
    decides (Adds k v) e b d s h g = after_added e _ _ s k v h g.0
    decides (Computes k f) e b d s h g = subst StageServes (sym g.2) (after_computed k f _ b d g.0 h g.1)
    decides (Alters k may_add f) e b d s h (o, (v, judged, is, _), goes) =
        after_altered k may_add f e _ (entry_of_live cmp b n k) v s h judged (subst (λ o. GoesOnAltered e o s) is goes)

    refused : (t : Task K V F) (b : Live K V) → CanBeRefused cmp changes n t b → CanAnswer changes t OutcomeRefused
    refused (Finds w k) b g = needs_owner w _ g
    refused (Removes w k) b g = g
    refused (RemovesSeen z) b g = g
    refused (Inserts k v) b g = tt
    refused (Adds k v) b g = tt
    refused (Computes k f) b g = (g.1.0.0.1, g.1.0.1.0, g.0, g.1.2)
    refused (Alters k true f) b g = tt
    refused (Alters k false f) b g = alter_refused k f (entry_of_live cmp b n k) g.0 g.1

    live : (t : Task K V F) (e : ℕ) (b : Live K V) (ev : Event) (s : Stage K V F) (c : Content K V) → Serves t → LiveGives cmp changes n t e b ev s c → StageServes s
    live t e b event.Decide s c h g = decides t e b g.0 s h g.1
    live t e b event.Refused s c h g = subst StageServes (sym g.0) (h OutcomeRefused (refused t b g.2))
    live t e b (event.Opened i) s c h g = absurd g
    live t e b (event.Placed i) s c h g = absurd g
    live t e b (event.Moved i j) s c h g = absurd g
    live t e b event.Read s c h g = absurd g
    live t e b (event.Wipe _ _) s c h g = absurd g
    live t e b (event.Published i) s c h g = absurd g
    live t e b event.Silent s c h g = absurd g

    content : (t : Task K V F) (e : ℕ) (q : Content K V) (ev : Event) (s : Stage K V F) (c : Content K V) → Serves t → ContentGives cmp changes n t e q ev s c → StageServes s
    content t e (IsLive b) ev s c h g = live t e b ev s c h g
    content t e HasMoved ev s c h g = subst StageServes (sym g.1) (after_moved t e h)
    content t e IsUnborn ev s c h g = subst StageServes (sym g.1) h

    at_slot : (s : Stage K V F) (q : Content K V) (ev : Event) (s' : Stage K V F) (c : Content K V) → StageServes s → StageAtSlot cmp changes n s q ev s' c → StageServes s'
    at_slot (AtBin t e) q ev s' c h g = content t e q ev s' c h g
    at_slot (AtLocate t) q ev s' c h g = absurd g
    at_slot (AtHelp k a) q ev s' c h g = absurd g
    at_slot (AtUncount r) q ev s' c h g = absurd g
    at_slot (AtCount r) q ev s' c h g = absurd g
    at_slot (AtRecount r) q ev s' c h g = absurd g
    at_slot (AtBegin e r) q ev s' c h g = absurd g
    at_slot (AtGrow w x) q ev s' c h g = absurd g
    at_slot (AtReserve a) q ev s' c h g = absurd g
    at_slot (AtSweep w) q ev s' c h (w', same, g) = subst StageServes (sym same) (after_bin w.kind w.stage h g)
      where
        step_walk : (o : Option (CursorState K)) → Sweeps Reads → SweepServes (stage_walked o) Reads
        step_walk None h = h OutcomeEnded tt
        step_walk (Some f) h = h

        clear_on : (n : ℕ) (o : Option (CursorState K)) → Sweeps (Wipes n) → SweepServes (stage_cleared o) (Wipes n)
        clear_on n None h = h
        clear_on n (Some f) h = h

        at_entry : (f : CursorState K) (x : PlainEntry K V) (v : Event) → Sweeps Reads → ReadGives f x w.last v w'.stage w'.last → SweepServes w'.stage Reads
        at_entry f x event.Read h g = subst (λ z. SweepServes z Reads) (sym g.0) h
        at_entry f x event.Refused h g = subst (λ z. SweepServes z Reads) (sym g.0) (h OutcomeRefused tt)
        at_entry f x event.Decide h g = absurd g
        at_entry f x (event.Wipe _ _) h g = absurd g
        at_entry f x (event.Opened _) h g = absurd g
        at_entry f x (event.Placed _) h g = absurd g
        at_entry f x (event.Moved _ _) h g = absurd g
        at_entry f x (event.Published _) h g = absurd g
        at_entry f x event.Silent h g = absurd g

        at_moved : (f : CursorState K) (v : Event) → Sweeps Reads → SplitGives f v w'.stage → SweepServes w'.stage Reads
        at_moved f event.Silent h g = subst (λ z. SweepServes z Reads) (sym g) h
        at_moved f event.Refused h g = subst (λ z. SweepServes z Reads) (sym g.0) (h OutcomeRefused tt)
        at_moved f event.Decide h g = absurd g
        at_moved f event.Read h g = absurd g
        at_moved f (event.Wipe _ _) h g = absurd g
        at_moved f (event.Opened _) h g = absurd g
        at_moved f (event.Placed _) h g = absurd g
        at_moved f (event.Moved _ _) h g = absurd g
        at_moved f (event.Published _) h g = absurd g

        at_next : (f : CursorState K) (o : Option (PlainEntry K V)) → Sweeps Reads → MatchOption o ((ev ≡ event.Silent) × (w'.stage ≡ stage_walked (after_top f)) × (w'.last ≡ w.last)) (λ x. ReadGives f x w.last ev w'.stage w'.last) → SweepServes w'.stage Reads
        at_next f None h g = subst (λ z. SweepServes z Reads) (sym g.1) (step_walk (after_top f) h)
        at_next f (Some x) h g = at_entry f x ev h g

        walks : (f : CursorState K) (z : Content K V) → Sweeps Reads → WalkGives cmp f z w.last ev w'.stage w'.last → SweepServes w'.stage Reads
        walks f (IsLive b) h g = at_next f (next_of_live cmp f.top.bound b) h g
        walks f HasMoved h g = at_moved f ev h g.0
        walks f IsUnborn h g = subst (λ z. SweepServes z Reads) (sym g.1) h

        clears : (n : ℕ) (f : CursorState K) (z : Content K V) → Sweeps (Wipes n) → ClearGives n f z ev w'.kind w'.stage c → SweepServes w'.stage w'.kind
        clears n f (IsLive b) h g = subst (SweepServes w'.stage) (sym g.1) (subst (λ z. SweepServes z (Wipes (more_wiped n (length b.plain_entries)))) (sym g.2) (clear_on _ (after_top f) h))
        clears n f HasMoved h g = subst (SweepServes w'.stage) (sym g.1) (subst (λ z. SweepServes z (Wipes n)) (sym g.2) h)
        clears n f IsUnborn h g = subst (SweepServes w'.stage) (sym g.1) (subst (λ z. SweepServes z (Wipes n)) (sym g.2) h)

        after_bin : (u : SweepKind) (z : SweepStage K V) → SweepServes z u → BinGives cmp u z w.last q ev w' c → SweepServes w'.stage w'.kind
        after_bin Reads (OverBins f) h g = subst (SweepServes w'.stage) (sym g.0) (walks f q h g.1)
        after_bin (Wipes n) (OverBins f) h g = clears n f q h g.1
        after_bin Reads AtSweepStart h g = absurd g
        after_bin (Wipes n) AtSweepStart h g = absurd g
        after_bin Reads AtTotal h g = absurd g
        after_bin (Wipes n) AtTotal h g = absurd g
        after_bin Reads (AtEnd r) h g = absurd g
        after_bin (Wipes n) (AtEnd r) h g = absurd g
        after_bin Reads AfterEnd h g = absurd g
        after_bin (Wipes n) AfterEnd h g = absurd g
    at_slot (AtDone r) q ev s' c h g = absurd g
    at_slot AtTaken q ev s' c h g = absurd g

  -- ---- at a move

  at_move : (p p' : PartyState K V F) (q low high q' low' high' : SlotState K V) (ev : Event) → StageServes p.stage → MoveGives p q low high ev p' q' low' high' → StageServes p'.stage
  at_move p p' q low high q' low' high' (event.Moved e i) h g = subst (λ z. StageServes z.stage) (sym g.3) (with_moved p.stage h)
  at_move p p' q low high q' low' high' event.Silent h g = still_or_on g.3
    where
      still_or_on : ((q.content ≡ HasMoved) × (p' ≡ with_stage p (moved_stage p.stage))) ⊎ (Clashes q low high × (p' ≡ p)) → StageServes p'.stage
      still_or_on (inl x) = subst (λ z. StageServes z.stage) (sym x.1) (with_moved p.stage h)
      still_or_on (inr x) = subst (λ z. StageServes z.stage) (sym x.1) h
  at_move p p' q low high q' low' high' event.Decide h g = absurd g
  at_move p p' q low high q' low' high' event.Refused h g = absurd g
  at_move p p' q low high q' low' high' (event.Opened e) h g = absurd g
  at_move p p' q low high q' low' high' (event.Placed e) h g = absurd g
  at_move p p' q low high q' low' high' event.Read h g = absurd g
  at_move p p' q low high q' low' high' (event.Wipe _ _) h g = absurd g
  at_move p p' q low high q' low' high' (event.Published e) h g = absurd g

  -- ---- over a field

  module _ {S R : Type 0} (place : R → ℕ → Option ℕ → Bool → R → Type 0) (cmp : K → K → Ordering) (lends : S → Loan K V R → S → Type 0) where
    with_loan : (l : Loan K V R) (p p' : PartyState K V F) (ev : Event) → StageServes p.stage → StepWith place cmp changes l p ev p' → StageServes p'.stage
    with_loan (ControlLoan b r b' r') p p' ev h g = at_control place p.processors p.helped b r p'.stage b' r' p.stage ev h g.1.step
    with_loan (PublishedLoan d) p p' ev h g = subst (λ z. StageServes z.stage) (sym g.3) (after_start d p.stage g.0 h)
    with_loan (TallyLoan m n n') p p' ev h g = at_tally m n p'.stage n' p.stage h g.step
    with_loan (LookLoan q) p p' ev h g = at_slot cmp p.hash p.stage q.content ev p'.stage q.content h g.2.step
    with_loan (BinLoan q q') p p' ev h g = at_slot cmp p.hash p.stage q.content ev p'.stage q'.content h g.2.step
    with_loan (MoveLoan q low high q' low' high') p p' ev h g = at_move p p' q low high q' low' high' ev h g.2.step
    with_loan (BoardLoan e x) p p' ev h g = subst (λ z. StageServes z.stage) (sym g.1.after) (after_answer x p.stage h)

    all_turns : {s s' : S} {p p' : PartyState K V F} → StageServes p.stage → StepClosure (FieldStep place cmp changes lends) s p s' p' → StageServes p'.stage
    all_turns h still = h
    all_turns {p' = p'} h (further {p' = e} ev field_steps field_step) = with_loan field_step.loan e p' ev (all_turns h field_steps) field_step.step

-- a call that did no step yet can answer what its first stage can
first_serves : {Q K V F A : Type 0} (changes : F → K → Option V → Verdict V → Type 0) (stands_for : Q → K) (c : Call Q K V F A) → StageServes changes (CanAnswerFrom changes (stage_of_call (plain_call stands_for c))) (stage_of_call (plain_call stands_for c))
first_serves changes stands_for (call.Get k) = λ r h. h
first_serves changes stands_for (call.GetKeyValue k) = λ r h. h
first_serves changes stands_for (call.ContainsKey k) = λ r h. h
first_serves changes stands_for (call.Remove k) = λ r h. h
first_serves changes stands_for (call.RemoveEntry k) = λ r h. h
first_serves changes stands_for (call.RemoveSeen z) = λ r h. h
first_serves changes stands_for (call.Insert k v) = λ r h. h
first_serves changes stands_for (call.TryInsert k v) = λ r h. h
first_serves changes stands_for (call.Compute k f) = λ r h. h
first_serves changes stands_for (call.Alter k f) = λ r h. h
first_serves changes stands_for (call.AlterPresent k f) = λ r h. h
first_serves changes stands_for (call.Reserve a) = λ r h. h
first_serves changes stands_for call.Clear = λ r h. h
first_serves changes stands_for call.Walk = λ r h. h

module _ {S R K V F : Type 0} (place : R → ℕ → Option ℕ → Bool → R → Type 0) (cmp : K → K → Ordering) (changes : F → K → Option V → Verdict V → Type 0) (lends : S → Loan K V R → S → Type 0) {s s' : S} {p p' : PartyState K V F} {r : Outcome K V} (field_steps : StepsToReply (FieldStep place cmp changes lends) s p r s' p') where
  -- the reply to which steps take a call is one that it can answer
  pub can_answer : {Q A : Type 0} (stands_for : Q → K) (c : Call Q K V F A) → p.stage ≡ stage_of_call (plain_call stands_for c) → CanAnswerFrom changes (stage_of_call (plain_call stands_for c)) r
  can_answer stands_for c e = served changes (CanAnswerFrom changes (stage_of_call (plain_call stands_for c))) field_steps.last.stage r (all_turns changes (CanAnswerFrom changes (stage_of_call (plain_call stands_for c))) place cmp lends (subst (StageServes changes (CanAnswerFrom changes (stage_of_call (plain_call stands_for c)))) (sym e) (first_serves changes stands_for c)) field_steps.field_steps) field_steps.done
