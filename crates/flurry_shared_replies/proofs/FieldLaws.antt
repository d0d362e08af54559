-- The reply of a call does not depend on who lends the parts of its steps, nor on where tables are made.
use Rattle.std.proofs.Common.{Option, refl, ap}
use Rattle.std.specs.declared.cmp.Ordering.{Ordering}
use Rattle.flurry_steps.specs.StepClosure.{StepClosure, StepsToReply, still, further}
use Rattle.flurry_steps.specs.Field.{Loan, ControlLoan, PublishedLoan, TallyLoan, LookLoan, BinLoan, MoveLoan, BoardLoan, StepWith, FieldStep}
use Rattle.flurry_steps.specs.Party.{PartyState}
use Rattle.flurry_steps.proofs.Rooms.{control_in}
use Rattle.flurry_shared_locks.specs.LockLoans.{LockLends, RoomStays}
use Rattle.flurry_steps_sweep.specs.Outcome.{Outcome}
use Rattle.flurry_steps_sweep.specs.declared.step.Event.{Event}
use Rattle.flurry_shared_replies.specs.Replies.{IsReplyOf}
use Rattle.flurry_base.specs.declared.verdict.Verdict.{Verdict}

module _ {K V F M N : Type 0} (room : M → N) (cmp : K → K → Ordering) (changes : F → K → Option V → Verdict V → Type 0) where
  -- a loan whose tables are made elsewhere
  abbrev loan_in : Loan K V M → Loan K V N
  loan_in (ControlLoan b m b' m') = ControlLoan b (room m) b' (room m')
  loan_in (PublishedLoan d) = PublishedLoan d
  loan_in (TallyLoan most n n') = TallyLoan most n n'
  loan_in (LookLoan q) = LookLoan q
  loan_in (BinLoan q q') = BinLoan q q'
  loan_in (MoveLoan q low high q' low' high') = MoveLoan q low high q' low' high'
  loan_in (BoardLoan e x) = BoardLoan e x

  step_in : (l : Loan K V M) (p : PartyState K V F) (ev : Event) (p' : PartyState K V F) → StepWith (RoomStays {M = M}) cmp changes l p ev p' → StepWith (RoomStays {M = N}) cmp changes (loan_in l) p ev p'
  step_in (ControlLoan b m b' m') p ev p' h = (h.0, control_in (RoomStays {M = M}) (RoomStays {M = N}) room (λ r e growth ok r' stays. ap room stays) p b m ev p' b' m' h.1)
  step_in (PublishedLoan d) p ev p' h = h
  step_in (TallyLoan most n n') p ev p' h = h
  step_in (LookLoan q) p ev p' h = h
  step_in (BinLoan q q') p ev p' h = h
  step_in (MoveLoan q low high q' low' high') p ev p' h = h
  step_in (BoardLoan e x) p ev p' h = h

  module _ {L : Type 0} {lends : L → Loan K V M → L → Type 0} where
    steps_in : {l l' : L} {p p' : PartyState K V F} → StepClosure (FieldStep (RoomStays {M = M}) cmp changes lends) l p l' p' → StepClosure {S = Unit {0}} (FieldStep (RoomStays {M = N}) cmp changes LockLends) tt p tt p'
    steps_in still = still
    steps_in {p' = p'} (further {p' = e} ev field_steps field_step) = further ev (steps_in field_steps) (record { loan = loan_in field_step.loan; lent = refl; step = step_in field_step.loan e ev p' field_step.step })

    reply_in : {l l' : L} {p p' : PartyState K V F} {r : Outcome K V} → StepsToReply (FieldStep (RoomStays {M = M}) cmp changes lends) l p r l' p' → StepsToReply {S = Unit {0}} (FieldStep (RoomStays {M = N}) cmp changes LockLends) tt p r tt p'
    reply_in t = record { last = t.last; field_steps = steps_in t.field_steps; done = t.done; after = t.after }

module _ {K V F M : Type 0} (cmp : K → K → Ordering) (changes : F → K → Option V → Verdict V → Type 0) (p : PartyState K V F) (r : Outcome K V) where
  -- the reply to which steps lead whose parts anybody lends, and whose tables are made anywhere
  pub driven_reply : {L : Type 0} {lends : L → Loan K V M → L → Type 0} {l l' : L} {p' : PartyState K V F} → StepsToReply (FieldStep (RoomStays {M = M}) cmp changes lends) l p r l' p' → IsReplyOf cmp changes p r
  driven_reply {p' = p'} t = record { last = p'; field_steps = reply_in (λ m. tt) cmp changes t }

  -- and steps lead to that reply whose tables are made in any given place
  pub reply_driven : M → IsReplyOf cmp changes p r → (p' : PartyState K V F) × StepsToReply {S = Unit {0}} (FieldStep (RoomStays {M = M}) cmp changes LockLends) tt p r tt p'
  reply_driven m x = (x.last, reply_in (λ u. m) cmp changes x.field_steps)
