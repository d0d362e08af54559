-- Laws of walks over the locks.
use Rattle.std.proofs.Common.{◌≡◌, ℕ, Option, Some, None, IsSome, MatchOption, Result, Ok, Err, false, refl, sym, ◌∙◌, ap, subst}
use Rattle.std.specs.declared.cmp.Ordering.{Ordering}
use Rattle.flurry_steps.specs.StepClosure.{StepClosure, still, further}
use Rattle.flurry_shared_locks.specs.LockLoans.{LockLends, RoomStays}
use Rattle.flurry_shared_locks.specs.WalkSteps.{WalkStep, WalksOrStays, AtControl, AtPublishedTable, AtSlot}
use Rattle.flurry_base.specs.declared.call.Seen.{Seen}
use Rattle.flurry_shared_replies.specs.Replies.{GoesTo, new_party}
use Rattle.flurry_shared_replies.specs.Answers.{CanWalk}
use Rattle.flurry_shared_replies.proofs.AnswerLaws.{can_answer}
use Rattle.flurry_bins_slots.specs.Slot.{PlainEntry, Content, IsLive, HasMoved, IsUnborn, next_of_live}
use Rattle.flurry_bins_slots.specs.declared.compute_fn.NoFn.{NoFn}
use Rattle.flurry_steps_sweep.specs.Cursor.{CursorState, after_top}
use Rattle.flurry_steps_sweep.specs.Outcome.{Outcome}
use Rattle.flurry_steps_sweep.specs.OutcomeView.{outcome_of}
use Rattle.flurry_steps_sweep.specs.declared.reply.Reply.{Reply}
use Rattle.flurry_steps_sweep.specs.declared.reply.Reply.TheVariants as reply
use Rattle.flurry_steps_sweep.specs.Sweep.{SweepKind, Reads, Wipes, SweepStage, AtSweepStart, OverBins, AtTotal, AtEnd, AfterEnd, SweepState, BinGives, WalkGives, ClearGives, ReadGives, fresh_sweep, stage_walked, swept_part}
use Rattle.flurry_steps_sweep.specs.declared.step.Event.{Event}
use Rattle.flurry_steps_sweep.specs.declared.step.Event.TheVariants as event
use Rattle.flurry_steps.specs.Field.{FieldStep, ControlLoan, PublishedLoan, LookLoan}
use Rattle.flurry_steps_stages.specs.Stage.{AtSweep}
use Rattle.flurry_steps.specs.Party.{PartyState}
use Rattle.flurry_steps_stages.specs.declared.call.Call.TheVariants as call
use Rattle.flurry_shared_view.specs.SharedAnswers.{no_changes}
use Rattle.flurry_shared_view.specs.Walks.{IteratorState, WalkAnswers, Begins, Gives, IsOpen, HasEnded, has_ended_after, AnyStep, OtherStep, ReadsNext, EndsWith, IsWalkUnderWay}

-- ---- what a read leaves

module _ {K V : Type 0} (cmp : K → K → Ordering) (l : Option (Seen K V)) (w' : SweepState K V) (c' : Content K V) where
  entry_read : (f : CursorState K) (o : Option (PlainEntry K V)) → MatchOption o ((event.Read ≡ event.Silent) × (w'.stage ≡ stage_walked (after_top f)) × (w'.last ≡ l)) (λ x. ReadGives f x l event.Read w'.stage w'.last) → IsSome w'.last
  entry_read f None h = let e : event.Read ≡ event.Silent = h.0 in cc
  entry_read f (Some x) h = subst IsSome (sym h.1) refl

  walk_read : (f : CursorState K) (c : Content K V) → WalkGives cmp f c l event.Read w'.stage w'.last → IsSome w'.last
  walk_read f (IsLive b) h = entry_read f (next_of_live cmp f.top.bound b) h
  walk_read f HasMoved h = absurd h.0
  walk_read f IsUnborn h = let e : event.Read ≡ event.Silent = h.0 in cc

  clear_read : (n : ℕ) (f : CursorState K) (c : Content K V) → ClearGives n f c event.Read w'.kind w'.stage c' → IsSome w'.last
  clear_read n f (IsLive b) h = let e : event.Read ≡ event.Wipe f.top.table f.top.index = h.0 in cc
  clear_read n f HasMoved h = let e : event.Read ≡ event.Silent = h.0 in cc
  clear_read n f IsUnborn h = let e : event.Read ≡ event.Silent = h.0 in cc

  bin_read : (e : SweepKind) (s : SweepStage K V) (c : Content K V) → BinGives cmp e s l c event.Read w' c' → IsSome w'.last
  bin_read Reads (OverBins f) c h = walk_read f c h.1
  bin_read (Wipes n) (OverBins f) c h = clear_read n f c h.1
  bin_read Reads AtSweepStart c h = absurd h
  bin_read (Wipes n) AtSweepStart c h = absurd h
  bin_read Reads AtTotal c h = absurd h
  bin_read (Wipes n) AtTotal c h = absurd h
  bin_read Reads (AtEnd r) c h = absurd h
  bin_read (Wipes n) (AtEnd r) c h = absurd h
  bin_read Reads AfterEnd c h = absurd h
  bin_read (Wipes n) AfterEnd c h = absurd h

-- ---- steps of a walk

-- a party that is this walk
abbrev party_of : {K V : Type 0} → SweepState K V → PartyState K V NoFn
party_of w = new_party 0 0 (AtSweep w)

module _ {K V : Type 0} (cmp : K → K → Ordering) where
  field_step_sees : (p p' : SweepState K V) → WalkStep cmp p event.Read p' → IsSome p'.last
  field_step_sees p p' (AtControl b b' wants step) = let e : event.Read ≡ event.Silent = step.silent in cc
  field_step_sees p p' (AtPublishedTable d asks within silent after) = let e : event.Read ≡ event.Silent = silent in cc
  field_step_sees p p' (AtSlot q wants slot step) = bin_read cmp p.last p' q.content p.kind p.stage q.content step.step

  -- a step of a walk is one of the party
  pub field_step_of : (p p' : SweepState K V) (ev : Event) → WalkStep cmp p ev p' → FieldStep (RoomStays {M = Unit {0}}) cmp no_changes (LockLends {S = Unit {0}}) tt (party_of p) ev tt (party_of p')
  field_step_of p p' ev (AtControl b b' wants step) = record { loan = ControlLoan b tt b' tt; lent = refl; step = (wants, record { hash = refl; processors = refl; helped = refl; step = (p', refl, step, refl) }) }
  field_step_of p p' ev (AtPublishedTable d asks within silent after) = record { loan = PublishedLoan d; lent = refl; step = (asks, within, silent, ap party_of after) }
  field_step_of p p' ev (AtSlot q wants slot step) = record { loan = LookLoan q; lent = refl; step = (wants, slot, record { hash = refl; processors = refl; helped = refl; table = refl; index = refl; step = (p', refl, step.step) }) }

  field_steps_of : {s s' : Unit {0}} {p p' : SweepState K V} → StepClosure (AnyStep cmp) s p s' p' → GoesTo cmp no_changes (party_of p) (party_of p')
  field_steps_of still = still
  field_steps_of {p' = p'} (further {p' = e} ev field_steps field_step) = further ev (field_steps_of field_steps) (field_step_of e p' ev field_step)

  -- and then steps that read nothing
  others_after : {s s' s'' : Unit {0}} {p p' p'' : SweepState K V} → StepClosure (AnyStep cmp) s p s' p' → StepClosure (OtherStep cmp) s' p' s'' p'' → StepClosure (AnyStep cmp) s p s'' p''
  others_after first still = first
  others_after first (further ev field_steps field_step) = further ev (others_after first field_steps) field_step.1

  pub read_sees : (p p' : SweepState K V) → ReadsNext cmp p p' → IsSome p'.last
  read_sees p p' x = field_step_sees x.before p' x.read

  pub still_under_way : (p p' : SweepState K V) → IsWalkUnderWay cmp p → ReadsNext cmp p p' → IsWalkUnderWay cmp p'
  still_under_way p p' h x = further event.Read (others_after h x.others) x.read

  -- a walk that ends has ended well, or was refused
  pub can_end : (p p' : SweepState K V) (r : Outcome K V) → IsWalkUnderWay cmp p → EndsWith cmp p r p' → CanWalk r
  can_end p p' r h t =
      can_answer (RoomStays {M = Unit {0}}) cmp no_changes (LockLends {S = Unit {0}}) {s = tt} {s' = tt} {p' = party_of p'} {r = r}
      (record { last = party_of t.last; field_steps = field_steps_of (others_after h t.others); done = t.done; after = ap party_of t.after }) {Q = K} {A = Unit {0}} (λ k. k) call.Walk refl

  -- a walk that did no step yet does one
  pub begins : (p p' : SweepState K V) (o : Option Event) → p ≡ fresh_sweep Reads → WalksOrStays cmp p o p' → (ev : Event) × WalkStep cmp (fresh_sweep Reads) ev p'
  begins p p' None fresh h = absurd (h.0 (ap swept_part fresh))
  begins p p' (Some ev) fresh h = (ev, subst (λ z. WalkStep cmp z ev p') fresh h)

  pub after_field_step : (o : Option Event) (ev : Event) (p p' : SweepState K V) → o ≡ Some ev → WalksOrStays cmp p o p' → WalkStep cmp p ev p'
  after_field_step o ev p p' e h = subst (λ z. WalksOrStays cmp p z p') e h

  -- of a walk that answered something
  pub goes_on : {X Y E : Type 0} (told : X → Y) (seen : Seen K V → Y) (p p' : SweepState K V) (r : Result (Option X) E) → IsWalkUnderWay cmp p → WalkAnswers cmp told seen p r p' → has_ended_after r ≡ false → IsWalkUnderWay cmp p'
  goes_on told seen p p' (Ok (Some x)) u h e = still_under_way p p' u h.0
  goes_on told seen p p' (Ok None) u h e = cc
  goes_on told seen p p' (Err x) u h e = cc

-- ---- iterators

module _ {K V : Type 0} (cmp : K → K → Ordering) where
  pub opens : (it : IteratorState K V) → Begins cmp it → IsOpen cmp it
  opens it h = record { walk = further h.event still h.step; goes_on = h.goes_on }

  -- one that gave something goes on
  pub stays_open : {X Y E : Type 0} (told : X → Y) (seen : Seen K V → Y) (it it' : IteratorState K V) (r : Result (Option X) E) (x : X) → r ≡ Ok (Some x) → IsOpen cmp it → Gives cmp told seen it r it' → IsOpen cmp it'
  stays_open told seen it it' r x e is h = record {
    walk = goes_on cmp told seen it.walk it'.walk r is.walk (h.answers is.goes_on) (ap has_ended_after e);
    goes_on = h.goes_on is.goes_on ∙ ap has_ended_after e;
  }

  -- one that gave nothing has ended
  pub comes_to_end : {X Y E : Type 0} (told : X → Y) (seen : Seen K V → Y) (it it' : IteratorState K V) (r : Result (Option X) E) → r ≡ Ok None → IsOpen cmp it → Gives cmp told seen it r it' → HasEnded cmp it'
  comes_to_end told seen it it' r e is h = record {
    last = it.walk;
    walk = is.walk;
    end = subst (λ z. WalkAnswers cmp told seen it.walk z it'.walk) e (h.answers is.goes_on);
    ended = h.goes_on is.goes_on ∙ ap has_ended_after e;
  }

-- a walk has no other reply
pub no_other : {K V A : Type 0} (r : Reply K V A) → CanWalk (outcome_of r) → (r ≡ reply.Ended → ⊥) → (r ≡ reply.Refused → ⊥) → ⊥
no_other (reply.Value v) h ended refused = h
no_other (reply.Pair p) h ended refused = h
no_other (reply.Contains b) h ended refused = h
no_other (reply.New v) h ended refused = h
no_other (reply.Changed new old) h ended refused = h
no_other (reply.Exists e) h ended refused = h
no_other reply.Ended h ended refused = ended refl
no_other reply.Refused h ended refused = refused refl
