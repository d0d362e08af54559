-- A call that is driven over an exclusive field.
use Rattle.std.specs.Prelude.{◌≡◌, ℕ, ◌+◌, ◌≤◌, Bool, true, length, Option, Some}
use Rattle.std.specs.declared.cmp.Ordering.{Ordering}
use Rattle.std.specs.Cmp.{IsTotalOrder}
use Rattle.std.proofs.Common.{refl, sym, ◌∙◌, ap, subst, inl, inr}
use Rattle.flurry_steps.specs.Field.{Loan, FieldStep}
use Rattle.flurry_steps_sweep.specs.Outcome.{Outcome}
use Rattle.flurry_steps_sweep.specs.Part.{Part}
use Rattle.flurry_steps_stages.specs.Stage.{final_outcome}
use Rattle.flurry_steps.specs.Party.{PartyState}
use Rattle.flurry_steps_sweep.specs.declared.step.Event.{Event}
use Rattle.flurry_steps_theory.specs.Map.{Pairs, same}
use Rattle.flurry_steps_theory.specs.Trace.{pairs}
use Rattle.flurry_base.specs.declared.call.Call.{Call}
use Rattle.flurry_base.specs.declared.call.Call.TheVariants as call
use Rattle.flurry_steps_world.specs.Parts.{Parts}
use Rattle.flurry_steps_world.specs.Tables.{Tables}
use Rattle.flurry_steps_world.specs.World.{Near, history}
use Rattle.flurry_steps_world.proofs.WorldSteps.{alike_class}
use Rattle.flurry_steps.specs.StepClosure.{StepClosure, still, further}
use Rattle.flurry_steps_drive.specs.IsExclusive.{StepsIn, IsExclusive}
use Rattle.flurry_steps_drive.specs.Exact.{Holds, OutcomeAnswers, IsFresh, DrivesTo, IsExact, most_counted}
use Rattle.flurry_steps_drive.proofs.OwnSteps.{own_step}
use Rattle.flurry_steps_drive.proofs.CountLaws.{Room, left}
use Rattle.flurry_steps_drive.proofs.Worlds.{IsPlain, InWorld, part_step, start_step, ended, begins}
use Rattle.flurry_steps_drive.proofs.Walks.{walk_step, walk_begins, walk_ends}
use Rattle.flurry_steps_drive.proofs.Clears as clears
use Rattle.flurry_steps_drive.proofs.Clears.{InClear, clear_begins}
use Rattle.flurry_base.specs.declared.sizes.TheConstants.{MAX_LABELS}
use Rattle.flurry_base.specs.declared.verdict.Verdict.{Verdict}

module _ {S P E : Type 0} (step : S → P → E → S → P → Type 0) where
  -- what each step keeps, all of them keep
  all_keep : (Kept : S → P → Type 0) → ((s s' : S) (p p' : P) (ev : E) → step s p ev s' p' → Kept s p → Kept s' p') → {s s' : S} {p p' : P} → StepClosure step s p s' p' → Kept s p → Kept s' p'
  all_keep Kept keeps still is = is
  all_keep Kept keeps {s' = s'} {p' = p'} (further {s' = u} {p' = q} ev field_steps field_step) is = keeps u s' q p' ev field_step (all_keep Kept keeps field_steps is)

module _ {K V F : Type 0} (cmp : K → K → Ordering) (total : IsTotalOrder cmp) (changes : F → K → Option V → Verdict V → Type 0) (hash : K → ℕ) (lawful : (j k : K) → same cmp j k ≡ true → hash j ≡ hash k) where
  -- a call that does not go over all bins
  module _ (n : ℕ) (d : Call K V F) (m : Pairs K V) (few : n + most_counted d m ≤ MAX_LABELS) (p : ℕ) where
    room_now : (s : Parts K V) (c : PartyState K V F) (is : InWorld cmp total hash lawful changes (n + most_counted d m) few p d m s c) → Room (n + most_counted d m) (left is.caller.party_state.stage) is.world.control_state.count
    room_now s c is = subst (λ z. Room (n + most_counted d m) (left z.stage) is.world.control_state.count) (sym is.party_state) (subst (λ z. Room (n + most_counted d m) (left c.stage) z.control_state.count) (sym is.parts) is.room)

    -- a step over parts that are those of a world
    over : (s s' : Parts K V) (c c' : PartyState K V F) (ev : Event) → StepsIn cmp changes c s ev c' s' → InWorld cmp total hash lawful changes (n + most_counted d m) few p d m s c → InWorld cmp total hash lawful changes (n + most_counted d m) few p d m s' c'
    over s s' c c' ev does is = by_kind (subst (λ z. StepsIn cmp changes is.caller.party_state z ev c' s') (sym is.parts) (subst (λ z. StepsIn cmp changes z s ev c' s') (sym is.party_state) does))
      where
        by_kind : StepsIn cmp changes is.caller.party_state (record { control_state = is.world.control_state; tables = is.world.tables }) ev c' s' → InWorld cmp total hash lawful changes (n + most_counted d m) few p d m s' c'
        by_kind (inl h) = part_step cmp total hash lawful changes (n + most_counted d m) few p d m is.world is.is_world is.caller is.at is.call is.alone (room_now s c is) is.plain c' s'.control_state s'.tables ev h
        by_kind (inr h) = subst (λ z. InWorld cmp total hash lawful changes (n + most_counted d m) few p d m z c') (sym h.parts) (start_step cmp total hash lawful changes (n + most_counted d m) few p d m is.world is.is_world is.caller is.at is.call is.alone (room_now s c is) is.plain h.table c' ev h.asks h.start h.silent h.party_state)

    -- to the call's end
    last : (s : Parts K V) (c : PartyState K V F) (r : Outcome K V) → final_outcome c.stage ≡ Some r → InWorld cmp total hash lawful changes (n + most_counted d m) few p d m s c → (m' : Pairs K V) × OutcomeAnswers cmp hash changes d m r m' × Holds cmp hash changes (n + most_counted d m) s m'
    last s c r e is =
        let done = ended cmp total hash lawful changes (n + most_counted d m) few p d m is.world is.is_world is.caller is.at is.call is.alone (room_now s c is) is.plain r (ap (λ z. final_outcome z.stage) is.party_state ∙ e) in
        (done.0, done.1, subst (λ z. Holds cmp hash changes (n + most_counted d m) z done.0) is.parts done.2)

  -- a clear
  module _ (n : ℕ) (m : Pairs K V) (few : n + length m ≤ MAX_LABELS) (p : ℕ) where
    clear_over : (s s' : Parts K V) (c c' : PartyState K V F) (ev : Event) → StepsIn cmp changes c s ev c' s' → InClear cmp total hash lawful changes n m few p s c → InClear cmp total hash lawful changes n m few p s' c'
    clear_over s s' c c' ev does is = by_kind (subst (λ z. StepsIn cmp changes is.caller.party_state z ev c' s') (sym is.parts) (subst (λ z. StepsIn cmp changes z s ev c' s') (sym is.party_state) does))
      where
        by_kind : StepsIn cmp changes is.caller.party_state (record { control_state = is.world.control_state; tables = is.world.tables }) ev c' s' → InClear cmp total hash lawful changes n m few p s' c'
        by_kind (inl h) = clears.part_step cmp total hash lawful changes n m few p is.world is.is_world is.caller is.at is.call is.sweep_state is.stage is.gone is.tally c' s'.control_state s'.tables ev h
        by_kind (inr h) = subst (λ z. InClear cmp total hash lawful changes n m few p z c') (sym h.parts) (clears.start_step cmp total hash lawful changes n m few p is.world is.is_world is.caller is.at is.call is.sweep_state is.stage is.gone is.tally h.table c' h.asks h.start h.party_state)

    clear_last : (s : Parts K V) (c : PartyState K V F) (r : Outcome K V) → final_outcome c.stage ≡ Some r → InClear cmp total hash lawful changes n m few p s c → (m' : Pairs K V) × OutcomeAnswers cmp hash changes call.Clear m r m' × Holds cmp hash changes (n + length m) s m'
    clear_last s c r e is =
        let (answers, near) = clears.ended cmp total hash lawful changes n m few p is.world is.is_world is.caller is.at is.call is.sweep_state is.stage is.gone is.tally r (ap (λ z. final_outcome z.stage) is.party_state ∙ e) in
        (pairs cmp hash (history is.world), answers, record { world = is.world; is_world = is.is_world; control_state = ap (λ z. z.control_state) is.parts; tables = ap (λ z. z.tables) is.parts; map = refl; near = subst (λ z. Near (n + length m) z.control_state.count) is.parts near })

module _ {S R K V F : Type 0} (place : R → ℕ → Option ℕ → Bool → R → Type 0) (cmp : K → K → Ordering) (total : IsTotalOrder cmp) (changes : F → K → Option V → Verdict V → Type 0) (lends : S → Loan K V R → S → Type 0) (lacks : S → Part → Type 0) (parts : S → Parts K V) (room : R → Tables K V) (t : IsExclusive parts room place lends lacks) (hash : K → ℕ) (lawful : (j k : K) → same cmp j k ≡ true → hash j ≡ hash k) where
  -- what each step over the parts keeps, a run keeps
  runs_keep : (Kept : Parts K V → PartyState K V F → Type 0) → ((s s' : Parts K V) (c c' : PartyState K V F) (ev : Event) → StepsIn cmp changes c s ev c' s' → Kept s c → Kept s' c') → {s s' : S} {c c' : PartyState K V F} → StepClosure (FieldStep place cmp changes lends) s c s' c' → Kept (parts s) c → Kept (parts s') c'
  runs_keep Kept keeps = all_keep (FieldStep place cmp changes lends) (λ s c. Kept (parts s) c) (λ s s' c c' ev field_step is. keeps (parts s) (parts s') c c' ev (own_step place cmp changes room t.places (parts s) (parts s') c c' ev field_step.loan (t.lends_own s field_step.loan s' field_step.lent) field_step.step) is)

  module _ (s s' : S) (c c' : PartyState K V F) (runs : StepClosure (FieldStep place cmp changes lends) s c s' c') (r : Outcome K V) (done : final_outcome c'.stage ≡ Some r) (n : ℕ) (m : Pairs K V) (h : Holds cmp hash changes n (parts s) m) where
    plain_exact : (d : Call K V F) → n + most_counted d m ≤ MAX_LABELS → IsFresh cmp hash changes d c → IsPlain d → DrivesTo cmp hash changes d n (parts s) m r (parts s')
    plain_exact d few fresh plain =
        let p = length h.world.party_records in
        last cmp total changes hash lawful n d m few p (parts s') c' r done (runs_keep _ (over cmp total changes hash lawful n d m few p) runs (begins cmp total hash lawful changes n d m few (parts s) h c fresh plain))

    by_call : (d : Call K V F) → n + most_counted d m ≤ MAX_LABELS → IsFresh cmp hash changes d c → DrivesTo cmp hash changes d n (parts s) m r (parts s')
    by_call call.Clear few fresh =
        let p = length h.world.party_records in
        clear_last cmp total changes hash lawful n m few p (parts s') c' r done (runs_keep _ (clear_over cmp total changes hash lawful n m few p) runs (clear_begins cmp total hash lawful changes n m few (parts s) h c fresh))
    by_call call.Walk few fresh = walk_ends cmp hash changes n m (parts s) (parts s') h c' r done (runs_keep _ (walk_step cmp changes (parts s)) runs (walk_begins cmp hash changes (parts s) c fresh))
    by_call d few fresh = plain_exact d few fresh tt

-- a run to the reply is exact
pub exact : {S R K V F : Type 0} (place : R → ℕ → Option ℕ → Bool → R → Type 0) (cmp : K → K → Ordering) (total : IsTotalOrder cmp) (changes : F → K → Option V → Verdict V → Type 0) (lends : S → Loan K V R → S → Type 0) (lacks : S → Part → Type 0) (s s' : S) (c c' : PartyState K V F) (r : Outcome K V)
    → StepClosure (FieldStep place cmp changes lends) s c s' c' → final_outcome c'.stage ≡ Some r → IsExact place cmp changes lends lacks s c r s'
exact place cmp total changes lends lacks s s' c c' r runs done parts room t hash alike d fresh n m few h = by_call place cmp total changes lends lacks parts room t hash (alike_class cmp hash alike) s s' c c' runs r done n m h d few fresh
