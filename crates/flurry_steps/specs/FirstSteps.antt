-- The first steps of a call at once: at a published table, and at its live bin there.
use Rattle.std.specs.Prelude.{◌≡◌, ℕ, Option, None}
use Rattle.std.specs.declared.cmp.Ordering.{Ordering}
use Rattle.flurry_bins_slots.specs.Slot.{SlotState}
use Rattle.flurry_steps_stages.specs.Stage.{Stage, published_stage}
use Rattle.flurry_steps.specs.Party.{PartyState}
use Rattle.flurry_steps.specs.PartySlots.{StageAtSlot}
use Rattle.flurry_steps_sweep.specs.declared.step.Event.{Event}
use Rattle.flurry_base.specs.declared.verdict.Verdict.{Verdict}

-- a call after its first step, at the published table of that exponent
abbrev pub begun_at : {K V F : Type 0} → ℕ → ℕ → ℕ → Stage K V F → PartyState K V F
begun_at d h n s = record { hash = h; processors = n; helped = None; stage = published_stage d s }

-- From the stage s, and at that published table, the step at the slot q of a call of the hash h leads to the stage s', and leaves q'.
pub record BeginsAt {K V F : Type 0} (cmp : K → K → Ordering) (changes : F → K → Option V → Verdict V → Type 0) (h d : ℕ) (s : Stage K V F) (q : SlotState K V) (s' : Stage K V F) (q' : SlotState K V) : Type 0 where
  pub event : Event
  pub table : q'.table ≡ q.table
  pub index : q'.index ≡ q.index
  pub step : StageAtSlot cmp changes h (published_stage d s) q.content event s' q'.content
