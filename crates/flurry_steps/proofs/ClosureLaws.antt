-- Steps of a call, one after another.
use Rattle.std.specs.Prelude.{Option, Some, None, MatchOption}
use Rattle.flurry_steps_sweep.specs.Part.{Part}
use Rattle.flurry_steps_sweep.specs.declared.step.Event.{Event}
use Rattle.flurry_steps.specs.Field.{StaysOrDone}
use Rattle.flurry_steps.specs.Party.{PartyState}
use Rattle.flurry_steps.specs.StepClosure.{StepClosure, further}

module _ {S K V F : Type 0} (step : S → PartyState K V F → Event → S → PartyState K V F → Type 0) (lacks : S → Part → Type 0) where
  -- one more call of `act`
  pub steps_on : (s s1 s2 : S) (p p1 p2 : PartyState K V F) (r : Option Event) → MatchOption r (StaysOrDone lacks s1 p1 s2 p2) (λ ev. step s1 p1 ev s2 p2) → StepClosure step s p s1 p1 → StepClosure step s p s2 p2
  steps_on s s1 s2 p p1 p2 None h runs = rw (h.field, h.party) runs
  steps_on s s1 s2 p p1 p2 (Some ev) h runs = further ev runs h
