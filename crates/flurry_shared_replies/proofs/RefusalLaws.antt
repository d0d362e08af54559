-- An insertion for which memory is wanting before its first step: its own steps can be refused too.
use Rattle.std.proofs.Common.{ℕ, ◌%◌, ◌^◌, false, [], Option, refl, arith}
use Rattle.std.specs.declared.cmp.Ordering.{Ordering}
use Rattle.flurry_base.proofs.ListParts.{sorted_nil}
use Rattle.flurry_base.specs.declared.verdict.Verdict.{Verdict}
use Rattle.flurry_bins_slots.specs.Slot.{SlotState, IsSlot, IsLive}
use Rattle.flurry_steps_sweep.specs.Outcome.{OutcomeRefused}
use Rattle.flurry_steps_sweep.specs.declared.step.Event.TheVariants.{Refused}
use Rattle.flurry_steps_stages.specs.Stage.{Inserts, AtLocate, AtDone}
use Rattle.flurry_shared_replies.specs.Replies.{IsReplyOf, new_party}
use Rattle.flurry_shared_replies.proofs.BeginLaws.{write_begun, done_by}

module _ {K V F : Type 0} (cmp : K → K → Ordering) (changes : F → K → Option V → Verdict V → Type 0) (h n : ℕ) (k : K) (v : V) where
  -- the empty bin of a table of one bin
  abbrev sole : SlotState K V
  sole = record { table = 0; index = h % 2 ^ 0; content = IsLive (record { plain_entries = []; tree = false; writes = 0 }) }

  sole-ok : IsSlot cmp sole
  sole-ok = record {
    table = omega arith;
    index = omega arith;
    content = record { ascends = sorted_nil _; sized = omega arith; region = tt };
  }

  pub insertion_refused : IsReplyOf cmp changes (new_party h n (AtLocate (Inserts k v))) OutcomeRefused
  insertion_refused =
      done_by cmp changes OutcomeRefused h n _
      (write_begun cmp changes h n 0 (AtLocate (Inserts k v)) (AtDone OutcomeRefused) refl (omega arith) sole sole refl sole-ok
      (record { event = Refused; table = refl; index = refl; step = (refl, refl, tt) }))
