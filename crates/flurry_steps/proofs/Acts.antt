-- A step at a field, as what `act` does.
use Rattle.std.specs.Prelude.{ℕ, Bool, Option, Some, None}
use Rattle.std.specs.declared.cmp.Ordering.{Ordering}
use Rattle.std.proofs.Common.{inr}
use Rattle.flurry_steps_sweep.specs.Part.{Part}
use Rattle.flurry_steps_sweep.specs.declared.step.Event.{Event}
use Rattle.flurry_steps.specs.Field.{Loan, StepsOrStays, ActsOrStays}
use Rattle.flurry_steps.specs.Party.{PartyState}
use Rattle.flurry_base.specs.declared.verdict.Verdict.{Verdict}

pub acts : {S K V F R : Type 0} (place : R → ℕ → Option ℕ → Bool → R → Type 0) (cmp : K → K → Ordering) (changes : F → K → Option V → Verdict V → Type 0) (lends : S → Loan K V R → S → Type 0) (lacks : S → Part → Type 0) (s : S) (p : PartyState K V F) (o : Option Event) (s' : S) (p' : PartyState K V F)
    → StepsOrStays place cmp changes lends lacks s p o s' p' → ActsOrStays place cmp changes lends lacks s p o s' p'
acts place cmp changes lends lacks s p None s' p' h = record { lacked = inr h.lacked; field = h.field; party = h.party }
acts place cmp changes lends lacks s p (Some ev) s' p' h = h
