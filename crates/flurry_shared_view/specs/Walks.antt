-- What contracts say of the iterators of a shared map, each of which is a walk.
use Rattle.std.specs.Prelude.{◌≡◌, ◌≢◌, ◌⊎◌, Bool, true, false, Option, Some, None, Result, Ok, Err}
use Rattle.std.specs.Option.{option_map}
use Rattle.std.specs.declared.cmp.Ordering.{Ordering}
use Rattle.flurry_steps.specs.StepClosure.{StepClosure}
use Rattle.flurry_shared_locks.specs.WalkSteps.{WalkStep}
use Rattle.flurry_base.specs.declared.call.Seen.{Seen}
use Rattle.flurry_steps_sweep.specs.Outcome.{Outcome, OutcomeEnded, OutcomeRefused}
use Rattle.flurry_steps_sweep.specs.Sweep.{SweepState, Reads, AfterEnd, fresh_sweep, swept_outcome, with_stage}
use Rattle.flurry_steps_sweep.specs.declared.step.Event.{Event}
use Rattle.flurry_steps_sweep.specs.declared.step.Event.TheVariants as event

-- an iterator: its walk, and whether it has ended
pub record IteratorState (K V : Type 0) : Type 0 where
  pub walk : SweepState K V
  pub has_ended : Bool

module _ {K V : Type 0} (cmp : K → K → Ordering) where
  -- a step of a walk
  abbrev pub AnyStep : Unit {0} → SweepState K V → Event → Unit {0} → SweepState K V → Type 0
  AnyStep s p ev s' p' = WalkStep cmp p ev p'

  -- one that reads no pair
  abbrev pub OtherStep : Unit {0} → SweepState K V → Event → Unit {0} → SweepState K V → Type 0
  OtherStep s p ev s' p' = (ev ≢ event.Read) × WalkStep cmp p ev p'

  -- the walk reads a pair, after steps that read none
  pub record ReadsNext (p p' : SweepState K V) : Type 0 where
    pub before : SweepState K V
    pub others : StepClosure {S = Unit {0}} OtherStep tt p tt before
    pub read : WalkStep cmp before event.Read p'

  -- the walk has ended with that reply, which is taken, by steps that read no pair
  pub record EndsWith (p : SweepState K V) (r : Outcome K V) (p' : SweepState K V) : Type 0 where
    pub last : SweepState K V
    pub others : StepClosure {S = Unit {0}} OtherStep tt p tt last
    pub done : swept_outcome last.stage ≡ Some r
    pub after : p' ≡ with_stage last AfterEnd

  -- a walk that reads on has read a pair, or has ended with that reply
  abbrev pub ReadsOn : SweepState K V → Option (Outcome K V) → SweepState K V → Type 0
  ReadsOn p None p' = ReadsNext p p'
  ReadsOn p (Some r) p' = EndsWith p r p'

  -- A walk is asked for its next pair. It answers what its next read saw, as told; or none, and has ended; or the error, where it was
  -- refused, or where a further owner of what it read was refused.
  abbrev pub WalkAnswers : {X Y E : Type 0} → (X → Y) → (Seen K V → Y) → SweepState K V → Result (Option X) E → SweepState K V → Type 0
  WalkAnswers told seen p (Ok (Some x)) p' = ReadsNext p p' × (option_map seen p'.last ≡ Some (told x))
  WalkAnswers told seen p (Ok None) p' = EndsWith p OutcomeEnded p'
  WalkAnswers told seen p (Err e) p' = EndsWith p OutcomeRefused p' ⊎ ReadsNext p p'

  -- steps of a walk led there, from its first on
  abbrev pub IsWalkUnderWay : SweepState K V → Type 0
  IsWalkUnderWay p = StepClosure {S = Unit {0}} AnyStep tt (fresh_sweep Reads) tt p

  -- an iterator that has done its first step, by which its walk begins at the table that is published, or has ended without one
  pub record Begins (it : IteratorState K V) : Type 0 where
    pub event : Event
    pub step : WalkStep cmp (fresh_sweep Reads) event it.walk
    pub goes_on : it.has_ended ≡ false

-- an iterator goes on exactly where it has answered something
abbrev pub has_ended_after : {X E : Type 0} → Result (Option X) E → Bool
has_ended_after (Ok (Some x)) = false
has_ended_after _ = true

-- What an iterator answers, and what it is then: one that has ended stays as it is, and answers none.
pub record Gives {K V X Y E : Type 0} (cmp : K → K → Ordering) (told : X → Y) (seen : Seen K V → Y) (it : IteratorState K V) (r : Result (Option X) E) (it' : IteratorState K V) : Type 0 where
  pub ended : it.has_ended ≡ true → (r ≡ Ok None) × (it' ≡ it)
  pub answers : it.has_ended ≡ false → WalkAnswers cmp told seen it.walk r it'.walk
  pub goes_on : it.has_ended ≡ false → it'.has_ended ≡ has_ended_after r

-- An iterator that has not ended.
pub record IsOpen {K V : Type 0} (cmp : K → K → Ordering) (it : IteratorState K V) : Type 0 where
  pub walk : IsWalkUnderWay cmp it.walk
  pub goes_on : it.has_ended ≡ false

-- An iterator that has come to its end: steps of its walk led there, and none of them was refused.
pub record HasEnded {K V : Type 0} (cmp : K → K → Ordering) (it : IteratorState K V) : Type 0 where
  pub last : SweepState K V
  pub walk : IsWalkUnderWay cmp last
  pub end : EndsWith cmp last OutcomeEnded it.walk
  pub ended : it.has_ended ≡ true
