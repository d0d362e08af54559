-- A step at an exclusive field, as a step over these.
use Rattle.std.specs.Prelude.{ℕ, Bool, Option}
use Rattle.std.specs.declared.cmp.Ordering.{Ordering}
use Rattle.std.proofs.Common.{inl, inr}
use Rattle.flurry_steps.specs.Field.{Loan, PublishedLoan, TallyLoan, StepWith}
use Rattle.flurry_steps.specs.Party.{PartyState}
use Rattle.flurry_steps_sweep.specs.declared.step.Event.{Event}
use Rattle.flurry_steps_world.specs.Parts.{Parts, IsOwn}
use Rattle.flurry_steps_world.specs.Tables.{Tables, PlaceGives}
use Rattle.flurry_steps_world.proofs.PartsLaws.{own_part}
use Rattle.flurry_steps_drive.specs.IsExclusive.{StepsIn}
use Rattle.flurry_base.specs.declared.verdict.Verdict.{Verdict}

module _ {K V F R : Type 0} (place : R → ℕ → Option ℕ → Bool → R → Type 0) (cmp : K → K → Ordering) (changes : F → K → Option V → Verdict V → Type 0) (room : R → Tables K V) (places : (r : R) (e : ℕ) (g : Option ℕ) (ok : Bool) (r' : R) → place r e g ok r' → PlaceGives (room r) e g ok (room r')) (s s' : Parts K V) (c c' : PartyState K V F) (ev : Event) where
  pub own_step : (l : Loan K V R) → IsOwn room s l s' → StepWith place cmp changes l c ev c' → StepsIn cmp changes c s ev c' s'
  own_step (PublishedLoan d) (x, y) (asks, within, silent, h) = inr (record { table = d; start = x; asks = asks; silent = silent; party_state = h; parts = y })
  own_step (TallyLoan m n n') x h = absurd x
  own_step l x h = inl (own_part place cmp changes room places s s' c c' ev l tt x h)
