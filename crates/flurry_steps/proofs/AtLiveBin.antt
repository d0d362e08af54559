-- What was told of a slot whose bin is live, as the step of a call there.
use Rattle.std.specs.Prelude.{◌≡◌, ℕ, ◌^◌, Bool, Option}
use Rattle.std.proofs.Common.{refl}
use Rattle.std.specs.declared.cmp.Ordering.{Ordering}
use Rattle.flurry_base.specs.declared.verdict.Verdict.{Verdict}
use Rattle.flurry_base.specs.declared.verdict.Verdict.TheVariants.{Set}
use Rattle.flurry_bins_slots.specs.Slot as slot
use Rattle.flurry_bins_slots.specs.Slot.{Live, AlterOutcome, Content, IsLive, HasMoved, IsUnborn, IfLive, JudgesAt}
use Rattle.flurry_steps_sweep.specs.Outcome.{OutcomeRefused}
use Rattle.flurry_steps_stages.specs.Stage.{Stage, Alters, AtDone}
use Rattle.flurry_steps.specs.PartySlots.{ContentGives, GoesOnAltered}
use Rattle.flurry_steps_sweep.specs.declared.step.Event.TheVariants.{Decide, Refused}

pub without_rest : {K V : Type 0} (P R : Live K V → Live K V → Type 0) (c c' : Content K V) → IfLive c (λ b. IfLive c' (λ d. P b d × R b d)) → IfLive c (λ b. IfLive c' (P b))
without_rest P R (IsLive b) (IsLive d) here = here.0
without_rest P R (IsLive b) HasMoved here = absurd here
without_rest P R (IsLive b) IsUnborn here = absurd here
without_rest P R HasMoved c' here = absurd here
without_rest P R IsUnborn c' here = absurd here

module _ {K V F : Type 0} (cmp : K → K → Ordering) (changes : F → K → Option V → Verdict V → Type 0) (h : ℕ) (k : K) (may_add : Bool) (f : F) (e : ℕ) where
  -- an alteration in vain is refused
  pub refused_alteration : (c : Content K V) (w : V) → IfLive c (λ b. JudgesAt cmp changes f may_add b h k (Set w)) → ContentGives cmp changes h (Alters k may_add f) e c Refused (AtDone OutcomeRefused) c
  refused_alteration (IsLive b) w v = (refl, refl, (w, v))
  refused_alteration HasMoved w v = absurd v
  refused_alteration IsUnborn w v = absurd v

  -- an alteration that was done at a live bin decides
  pub decided_alteration : (c c' : Content K V) (o : AlterOutcome K V) (s : Stage K V F)
      → IfLive c (λ b. IfLive c' (λ d. slot.Alters cmp changes f may_add (2 ^ e) b h k o d)) → GoesOnAltered e o s → ContentGives cmp changes h (Alters k may_add f) e c Decide s c'
  decided_alteration (IsLive b) (IsLive d) o s here goes = (d, (o, here, goes), refl)
  decided_alteration (IsLive b) HasMoved o s here goes = absurd here
  decided_alteration (IsLive b) IsUnborn o s here goes = absurd here
  decided_alteration HasMoved c' o s here goes = absurd here
  decided_alteration IsUnborn c' o s here goes = absurd here
