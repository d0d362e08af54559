use Rattle.std.proofs.Common.{◌≡◌, ℕ, ◌^◌, Option, refl}
use Rattle.std.specs.declared.cmp.Ordering.{Ordering}
use Rattle.flurry_bins_slots.specs.Slot as slot
use Rattle.flurry_bins_slots.specs.Slot.{Live, ComputeOutcome, Content, IsLive, HasMoved, IsUnborn, IfLive, ComputesInVain}
use Rattle.flurry_steps_sweep.specs.Outcome.{OutcomeRefused}
use Rattle.flurry_steps_stages.specs.Stage.{Stage, Computes, AtDone}
use Rattle.flurry_steps.specs.PartySlots.{ContentGives, stage_computed}
use Rattle.flurry_steps_sweep.specs.declared.step.Event.TheVariants.{Decide, Refused}
use Rattle.flurry_steps.proofs.AtLiveBin.{without_rest}
use Rattle.flurry_steps.proofs.party.at_slot.compute.Goals as goal
use Rattle.flurry_base.specs.declared.verdict.Verdict.{Verdict}

-- a computation in vain is refused
refused_at : {K V F : Type 0} (cmp : K → K → Ordering) (changes : F → K → Option V → Verdict V → Type 0) (h : ℕ) (k : K) (f : F) (e : ℕ) (c : Content K V) (w : V)
    → IfLive c (λ b. ComputesInVain cmp (changes f) b h k w) → ContentGives cmp changes h (Computes k f) e c Refused (AtDone OutcomeRefused) c
refused_at cmp changes h k f e (IsLive b) w v = (refl, refl, (w, v))
refused_at cmp changes h k f e HasMoved w v = absurd v
refused_at cmp changes h k f e IsUnborn w v = absurd v

-- a computation that was done at a live bin decides
decided_at : {K V F : Type 0} (cmp : K → K → Ordering) (changes : F → K → Option V → Verdict V → Type 0) (h : ℕ) (k : K) (f : F) (e : ℕ) (c c' : Content K V) (o : ComputeOutcome V) (s : Stage K V F)
    → IfLive c (λ b. IfLive c' (λ d. slot.Computes cmp (changes f) (2 ^ e) b h k o d)) → s ≡ stage_computed o → ContentGives cmp changes h (Computes k f) e c Decide s c'
decided_at cmp changes h k f e (IsLive b) (IsLive d) o s here is = (d, (o, here, is), refl)
decided_at cmp changes h k f e (IsLive b) HasMoved o s here is = absurd here
decided_at cmp changes h k f e (IsLive b) IsUnborn o s here is = absurd here
decided_at cmp changes h k f e HasMoved c' o s here is = absurd here
decided_at cmp changes h k f e IsUnborn c' o s here is = absurd here

pub returns-in-Err-clause-step : goal.returns-in-Err-clause-step
returns-in-Err-clause-step g c =
    rw c.in-Err.ensures.refused (refused_at g.K.Ord.cmp g.F.ComputeFn.changes c.args.hash _ c.args.f c.args.table _ _ c.in-Err.ensures.in_vain)

pub returns-in-Ok-Here-clause-step : goal.returns-in-Ok-Here-clause-step
returns-in-Ok-Here-clause-step g c =
    let here = rw (c.in-Ok-Here.field-0-is) at c.in-Ok-Here.ensures.here in
    let live = without_rest _ _ c.args.slot.now.content c.compute.new.self.content here in
    rw c.after_compute.ensures.decides (decided_at g.K.Ord.cmp g.F.ComputeFn.changes c.args.hash _ c.args.f c.args.table _ _ _ _ (rw (← c.requires.at) at live) c.after_compute.ensures.stage)
