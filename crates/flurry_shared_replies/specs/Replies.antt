-- What contracts say of the reply of a call over the locks.
use Rattle.std.specs.Prelude.{◌≡◌, ℕ, Option, None, Result, Ok, Err}
use Rattle.std.specs.declared.cmp.Ordering.{Ordering}
use Rattle.flurry_steps.specs.StepClosure.{StepClosure, StepsToReply}
use Rattle.flurry_shared_locks.specs.LockLoans.{LockLends, RoomStays}
use Rattle.flurry_steps.specs.Field.{FieldStep}
use Rattle.flurry_steps.specs.PartyTally.{EndingState, ending_stage}
use Rattle.flurry_steps_sweep.specs.Outcome.{Outcome}
use Rattle.flurry_steps_sweep.specs.OutcomeView.{outcome_of}
use Rattle.flurry_steps_sweep.specs.declared.reply.Reply.{Reply}
use Rattle.flurry_steps_stages.specs.Stage.{Stage, stage_of_call}
use Rattle.flurry_steps.specs.Party.{PartyState}
use Rattle.flurry_steps_stages.specs.CallView.{plain_call}
use Rattle.flurry_steps_stages.specs.declared.call.Call.{Call}
use Rattle.flurry_base.specs.declared.verdict.Verdict.{Verdict}

-- a call of that hash at that stage, for so many processors, which has helped no growth yet
abbrev pub new_party : {K V F : Type 0} → ℕ → ℕ → Stage K V F → PartyState K V F
new_party h n s = record { hash = h; processors = n; helped = None; stage = s }

-- The reply r is that of the call in the state p, done in steps. Each step is one of the call's own, at a part that is lent to it under
-- the part's lock; between two steps other threads may have left any other part of its type there. Nothing is said of who lends it, nor
-- of where tables are made.
pub record IsReplyOf {K V F : Type 0} (cmp : K → K → Ordering) (changes : F → K → Option V → Verdict V → Type 0) (p : PartyState K V F) (r : Outcome K V) : Type 0 where
  pub last : PartyState K V F
  pub field_steps : StepsToReply {S = Unit {0}} (FieldStep (RoomStays {M = Unit {0}}) cmp changes LockLends) tt p r tt last

-- the reply is that of a call of that hash at that stage, for so many processors
abbrev pub RepliesFrom : {K V F A : Type 0} → (K → K → Ordering) → (F → K → Option V → Verdict V → Type 0) → ℕ → ℕ → Stage K V F → Reply K V A → Type 0
RepliesFrom cmp changes h n s r = IsReplyOf cmp changes (new_party h n s) (outcome_of r)

-- steps of the very call lead from p to p'
abbrev pub GoesTo : {K V F : Type 0} → (K → K → Ordering) → (F → K → Option V → Verdict V → Type 0) → PartyState K V F → PartyState K V F → Type 0
GoesTo cmp changes p p' = StepClosure {S = Unit {0}} (FieldStep (RoomStays {M = Unit {0}}) cmp changes LockLends) tt p tt p'

-- a call of that hash has begun, for however many processors, whatever it left behind; or it has done no step, and comes back
abbrev pub BeginsOrStays : {Q K V F A B : Type 0} → (Q → K) → (K → K → Ordering) → (F → K → Option V → Verdict V → Type 0) → ℕ → Call Q K V F A → Result (EndingState K V × B) (Call Q K V F A) → Type 0
BeginsOrStays stands_for cmp changes h c (Ok (e, b)) = (n : ℕ) → GoesTo cmp changes (new_party h n (stage_of_call (plain_call stands_for c))) (new_party h n (ending_stage e))
BeginsOrStays stands_for cmp changes h c (Err c') = c' ≡ c
