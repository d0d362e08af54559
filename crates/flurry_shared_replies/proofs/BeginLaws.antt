-- The first steps of a call at once are its own.
use Rattle.std.proofs.Common.{◌≡◌, ℕ, ℤ, ◌%◌, ◌^◌, ◌≤◌, true, Option, refl, subst}
use Rattle.std.specs.declared.cmp.Ordering.{Ordering}
use Rattle.flurry_steps.specs.StepClosure.{StepClosure, still, further}
use Rattle.flurry_shared_replies.specs.Replies.{GoesTo, IsReplyOf, new_party}
use Rattle.flurry_base.specs.declared.sizes.TheConstants.{MAX_TABLE}
use Rattle.flurry_base.specs.declared.verdict.Verdict.{Verdict}
use Rattle.flurry_bins_slots.specs.Slot.{SlotState, IsSlot}
use Rattle.flurry_steps.specs.Field.{PublishedLoan, TallyLoan, LookLoan, BinLoan}
use Rattle.flurry_steps.specs.FirstSteps.{BeginsAt, begun_at}
use Rattle.flurry_steps_sweep.specs.Outcome.{Outcome}
use Rattle.flurry_steps_sweep.specs.Part.{LookPart, BinPart}
use Rattle.flurry_steps_stages.specs.Stage.{Stage, AtDone, AtTaken, is_locating, LooksUp, BeginsToWrite, stage_of_call}
use Rattle.flurry_steps.specs.Party.{PartyState, wanted_part}
use Rattle.flurry_steps.specs.PartyTally.{StageAtTally}
use Rattle.flurry_steps_stages.specs.CallView.{plain_call}
use Rattle.flurry_steps_sweep.specs.declared.step.Event.{Event}
use Rattle.flurry_steps_sweep.specs.declared.step.Event.TheVariants as event
use Rattle.flurry_steps_stages.specs.declared.call.Call.{Call}
use Rattle.flurry_steps_stages.specs.declared.call.Call.TheVariants as call

-- a look-up that did no step yet asks for the published table
pub look_locates : {Q K V F A : Type 0} (stands_for : Q → K) (c : Call Q K V F A) → LooksUp (stage_of_call (plain_call stands_for c)) → is_locating (stage_of_call (plain_call stands_for c)) ≡ true
look_locates stands_for (call.Get k) h = refl
look_locates stands_for (call.GetKeyValue k) h = refl
look_locates stands_for (call.ContainsKey k) h = refl
look_locates stands_for (call.Remove k) h = absurd h
look_locates stands_for (call.RemoveEntry k) h = absurd h
look_locates stands_for (call.RemoveSeen z) h = absurd h
look_locates stands_for (call.Insert k v) h = absurd h
look_locates stands_for (call.TryInsert k v) h = absurd h
look_locates stands_for (call.Compute k f) h = absurd h
look_locates stands_for (call.Alter k f) h = absurd h
look_locates stands_for (call.AlterPresent k f) h = absurd h
look_locates stands_for (call.Reserve a) h = absurd h
look_locates stands_for call.Clear h = absurd h
look_locates stands_for call.Walk h = absurd h

-- and then it looks at its bin there
pub look_wants : {Q K V F A : Type 0} (stands_for : Q → K) (c : Call Q K V F A) (d h n : ℕ) → LooksUp (stage_of_call (plain_call stands_for c)) → wanted_part (begun_at d h n (stage_of_call (plain_call stands_for c))) ≡ LookPart d (h % 2 ^ d)
look_wants stands_for (call.Get k) d h n looks = refl
look_wants stands_for (call.GetKeyValue k) d h n looks = refl
look_wants stands_for (call.ContainsKey k) d h n looks = refl
look_wants stands_for (call.Remove k) d h n looks = absurd looks
look_wants stands_for (call.RemoveEntry k) d h n looks = absurd looks
look_wants stands_for (call.RemoveSeen z) d h n looks = absurd looks
look_wants stands_for (call.Insert k v) d h n looks = absurd looks
look_wants stands_for (call.TryInsert k v) d h n looks = absurd looks
look_wants stands_for (call.Compute k f) d h n looks = absurd looks
look_wants stands_for (call.Alter k f) d h n looks = absurd looks
look_wants stands_for (call.AlterPresent k f) d h n looks = absurd looks
look_wants stands_for (call.Reserve a) d h n looks = absurd looks
look_wants stands_for call.Clear d h n looks = absurd looks
look_wants stands_for call.Walk d h n looks = absurd looks

-- and so does a call that may change its bin
pub write_locates : {Q K V F A : Type 0} (stands_for : Q → K) (c : Call Q K V F A) → BeginsToWrite (stage_of_call (plain_call stands_for c)) → is_locating (stage_of_call (plain_call stands_for c)) ≡ true
write_locates stands_for (call.Get k) h = absurd h
write_locates stands_for (call.GetKeyValue k) h = absurd h
write_locates stands_for (call.ContainsKey k) h = absurd h
write_locates stands_for (call.Remove k) h = refl
write_locates stands_for (call.RemoveEntry k) h = refl
write_locates stands_for (call.RemoveSeen z) h = refl
write_locates stands_for (call.Insert k v) h = refl
write_locates stands_for (call.TryInsert k v) h = refl
write_locates stands_for (call.Compute k f) h = refl
write_locates stands_for (call.Alter k f) h = refl
write_locates stands_for (call.AlterPresent k f) h = refl
write_locates stands_for (call.Reserve a) h = absurd h
write_locates stands_for call.Clear h = absurd h
write_locates stands_for call.Walk h = absurd h

pub write_wants : {Q K V F A : Type 0} (stands_for : Q → K) (c : Call Q K V F A) (d h n : ℕ) → BeginsToWrite (stage_of_call (plain_call stands_for c)) → wanted_part (begun_at d h n (stage_of_call (plain_call stands_for c))) ≡ BinPart d (h % 2 ^ d)
write_wants stands_for (call.Get k) d h n writes = absurd writes
write_wants stands_for (call.GetKeyValue k) d h n writes = absurd writes
write_wants stands_for (call.ContainsKey k) d h n writes = absurd writes
write_wants stands_for (call.Remove k) d h n writes = refl
write_wants stands_for (call.RemoveEntry k) d h n writes = refl
write_wants stands_for (call.RemoveSeen z) d h n writes = refl
write_wants stands_for (call.Insert k v) d h n writes = refl
write_wants stands_for (call.TryInsert k v) d h n writes = refl
write_wants stands_for (call.Compute k f) d h n writes = refl
write_wants stands_for (call.Alter k f) d h n writes = refl
write_wants stands_for (call.AlterPresent k f) d h n writes = refl
write_wants stands_for (call.Reserve a) d h n writes = absurd writes
write_wants stands_for call.Clear d h n writes = absurd writes
write_wants stands_for call.Walk d h n writes = absurd writes

module _ {S K V F : Type 0} {step : S → PartyState K V F → Event → S → PartyState K V F → Type 0} where
  both : {s s' s'' : S} {p p' p'' : PartyState K V F} → StepClosure step s p s' p' → StepClosure step s' p' s'' p'' → StepClosure step s p s'' p''
  both first still = first
  both first (further ev field_steps field_step) = further ev (both first field_steps) field_step

module _ {K V F : Type 0} (cmp : K → K → Ordering) (changes : F → K → Option V → Verdict V → Type 0) where
  module _ (h n d : ℕ) (s s' : Stage K V F) (asks : is_locating s ≡ true) (within : d ≤ MAX_TABLE) where
    -- a call that began at a published table, and did the step at its bin there
    pub look_begun : (q : SlotState K V) → wanted_part (begun_at d h n s) ≡ LookPart q.table q.index → IsSlot cmp q → BeginsAt cmp changes h d s q s' q
        → GoesTo cmp changes (new_party h n s) (new_party h n s')
    look_begun q wants slot b =
        further b.event (further event.Silent still (record { loan = PublishedLoan d; lent = refl; step = (asks, within, refl, refl) }))
        (record { loan = LookLoan q; lent = refl; step = (wants, slot, record { hash = refl; processors = refl; helped = refl; table = refl; index = refl; step = b.step }) })

    pub write_begun : (q q' : SlotState K V) → wanted_part (begun_at d h n s) ≡ BinPart q.table q.index → IsSlot cmp q → BeginsAt cmp changes h d s q s' q'
        → GoesTo cmp changes (new_party h n s) (new_party h n s')
    write_begun q q' wants slot b =
        further b.event (further event.Silent still (record { loan = PublishedLoan d; lent = refl; step = (asks, within, refl, refl) }))
        (record { loan = BinLoan q q'; lent = refl; step = (wants, slot, record { hash = refl; processors = refl; helped = refl; table = b.table; index = b.index; step = b.step }) })

  -- and one that did the step at a tally
  pub counted_at : (h n : ℕ) (s s' : Stage K V F) (most t t' : ℤ) → StageAtTally most s t s' t' → GoesTo cmp changes (new_party h n s) (new_party h n s')
  counted_at h n s s' most t t' b = further event.Silent still (record { loan = TallyLoan most t t'; lent = refl; step = record { hash = refl; processors = refl; helped = refl; silent = refl; step = b } })

  module _ (r : Outcome K V) where
    -- a call that steps lead to its end
    pub done_by : (h n : ℕ) (p : PartyState K V F) → GoesTo cmp changes p (new_party h n (AtDone r)) → IsReplyOf cmp changes p r
    done_by h n p field_steps = record {
      last = new_party h n AtTaken;
      field_steps = record { last = new_party h n (AtDone r); field_steps = field_steps; done = refl; after = refl };
    }

    -- the reply of a call that goes on after steps is the whole call's
    pub goes_on : (p q : PartyState K V F) → GoesTo cmp changes p q → IsReplyOf cmp changes q r → IsReplyOf cmp changes p r
    goes_on p q first x = record {
      last = x.last;
      field_steps = record { last = x.field_steps.last; field_steps = both first x.field_steps.field_steps; done = x.field_steps.done; after = x.field_steps.after };
    }

    -- of an equal state
    pub of_equal : (p q : PartyState K V F) → p ≡ q → IsReplyOf cmp changes p r → IsReplyOf cmp changes q r
    of_equal p q e x = subst (λ z. IsReplyOf cmp changes z r) e x
