-- Steps of a call, one after another.
use Rattle.std.specs.Prelude.{◌≡◌, Some}
use Rattle.flurry_steps_sweep.specs.Outcome.{Outcome}
use Rattle.flurry_steps_stages.specs.Stage.{final_outcome, taken_stage}
use Rattle.flurry_steps.specs.Party.{PartyState, with_stage}
use Rattle.flurry_steps_sweep.specs.declared.step.Event.{Event}

-- steps of a relation, one after another
pub data StepClosure {S P E : Type 0} (step : S → P → E → S → P → Type 0) : S → P → S → P → Type 0 where
  still : {s : S} {p : P} → StepClosure step s p s p
  further : {s : S} {p : P} {s' : S} {p' : P} {s'' : S} {p'' : P} (ev : E) → StepClosure step s p s' p' → step s' p' ev s'' p'' → StepClosure step s p s'' p''

-- the steps take p to its reply r, which is taken
pub record StepsToReply {S K V F : Type 0} (step : S → PartyState K V F → Event → S → PartyState K V F → Type 0) (s : S) (p : PartyState K V F) (r : Outcome K V) (s' : S) (p' : PartyState K V F) : Type 0 where
  pub last : PartyState K V F
  pub field_steps : StepClosure step s p s' last
  pub done : final_outcome last.stage ≡ Some r
  pub after : p' ≡ with_stage last (taken_stage last.stage)
