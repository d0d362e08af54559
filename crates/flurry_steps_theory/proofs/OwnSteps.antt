-- The mode and the call of a party after a transition, its own or another's.
use Rattle.std.specs.Prelude.{length, ℕ, suc, ◌+◌, ◌-◌, ◌^◌, ◌==◌, nat_lt, Bool, true, false, cond, List, [], ◌∷◌, Option, Some, None, ◌≡◌}
use Rattle.std.specs.declared.cmp.Ordering.{Ordering}
use Rattle.std.specs.Cmp.{IsTotalOrder}
use Rattle.std.proofs.Common.{arith, refl, sym, ◌∙◌, subst, subst₂}
use Rattle.std.proofs.lemmas.Bool.{eqb-true, eqb-false, ne_eqb, cond-false}
use Rattle.flurry_steps_theory.specs.Map.{same}
use Rattle.flurry_steps_theory.specs.Trace.{names}
use Rattle.flurry_steps_theory.specs.Machine.{State, Transition, effect, label, found_by, onward, halves, Frame, mode_after_count, Mode, Locating, Looking, Walking, Clearing, Done, Finished, Begins, Quiet, Loses, Counts, Finds, Opens, FindsNothing, IsRefused, DecidesEmpty, Passes, Decides, Places, Claims, Moves, Reports, Publishes, Reads, Leaves, Splits, Wipes, SplitsClear, Replies, Ends}
use Rattle.flurry_base.specs.declared.call.Call.{Call}
use Rattle.flurry_base.specs.declared.verdict.Verdict.{Verdict}

-- what a settled mode keeps, a mode keeps that may have been settled
pub if_settled : {K V : Type 0} (P : Mode K V → Type 0) → ((m : Mode K V) → P m → P (mode_after_count m)) → (b : Bool) (m : Mode K V) → P m → P (cond b (mode_after_count m) m)
if_settled P h true m g = h m g
if_settled P h false m g = g

-- what holds of each mode that a walk or a clear may go on to holds of the one that it does
pub onward_is : {K V : Type 0} (P : Mode K V → Type 0) (to : ℕ → ℕ → List (Frame K) → Mode K V) (end : Mode K V) (e i : ℕ) (fs : List (Frame K)) → ((j : ℕ) (gs : List (Frame K)) → P (to e j gs)) → P end → P (onward to end e i fs)
onward_is P to end e i (f ∷ fs) h g = h i (f ∷ fs)
onward_is P to end e i [] h g = go (nat_lt (suc i) (2 ^ e))
  where
    go : (b : Bool) → P (cond b (to e (suc i) (record { table = e; index = suc i; bound = None } ∷ [])) end)
    go true = h (suc i) (record { table = e; index = suc i; bound = None } ∷ [])
    go false = g

module _ {K V F : Type 0} (cmp : K → K → Ordering) (total : IsTotalOrder cmp) (hash : K → ℕ) (lawful : (j k : K) → same cmp j k ≡ true → hash j ≡ hash k) (gives : F → K → Option V → Verdict V → Type 0) where
  -- the party's own mode and call after its transition
  unfoldable pub next_mode : State K V F → ℕ → Transition K V F → Mode K V
  next_mode s p (Begins c w) = Locating
  next_mode s p (Counts whose) = cond (whose p) (mode_after_count (s.mode p)) (s.mode p)
  next_mode s p (Finds e) = found_by cmp hash gives (s.call p) e
  next_mode s p (Opens e) = found_by cmp hash gives (s.call p) e
  next_mode s p FindsNothing = Done None 0 0
  next_mode s p IsRefused = Finished
  next_mode s p (DecidesEmpty c r) = Done (Some r) 0 0
  next_mode s p (Passes e) = Looking (suc e)
  next_mode s p (Decides c k e es n r fs m) = Done (Some r) (length fs - length es) (length es - length fs)
  next_mode s p (Reads e i f fs es n x) = Walking e i (record { table = f.table; index = f.index; bound = Some x.key } ∷ fs)
  next_mode s p (Leaves e i f fs es n) = onward Walking (Done None 0 0) e i fs
  next_mode s p (Splits e i f fs) = Walking e i (halves f fs)
  next_mode s p (Wipes wiped e i f fs es n) = onward (Clearing (wiped + length es)) (Done None 0 (wiped + length es)) e i fs
  next_mode s p (SplitsClear wiped e i f fs) = Clearing wiped e i (halves f fs)
  next_mode s p (Replies r) = Finished
  next_mode s p Ends = Finished
  next_mode s p l = s.mode p

  -- the mode that another party is then in, which is the same, or the same with what it owed counted
  unfoldable pub other_mode : Transition K V F → ℕ → Mode K V → Mode K V
  other_mode (Counts whose) q m = cond (whose q) (mode_after_count m) m
  other_mode l q m = m

  -- so what counting keeps stays
  pub other_keeps : (P : Mode K V → Type 0) → ((m : Mode K V) → P m → P (mode_after_count m)) → (l : Transition K V F) (q : ℕ) (m : Mode K V) → P m → P (other_mode l q m)
  unfolding other_mode
  other_keeps P h (Counts whose) q m g = if_settled P h (whose q) m g
  other_keeps P h l q o y = y

  unfoldable pub next_call : State K V F → ℕ → Transition K V F → Option (Call K V F)
  next_call s p (Begins c w) = Some c
  next_call s p l = s.call p

  at_own : {X : Type 0} (f : ℕ → X) (p q : ℕ) → f q ≡ cond (p == q) (f p) (f q)
  at_own f p q = grind (arith, eqb-true p q)

  pub mode_after : (s : State K V F) (p q : ℕ) (l : Transition K V F) → (effect cmp hash gives s p l).mode q ≡ cond (p == q) (next_mode s p l) (other_mode l q (s.mode q))
  unfolding next_mode other_mode
  mode_after s p q Quiet = at_own s.mode p q
  mode_after s p q Loses = at_own s.mode p q
  mode_after s p q (Counts whose) = at_own (λ q. cond (whose q) (mode_after_count (s.mode q)) (s.mode q)) p q
  mode_after s p q (Places e) = at_own s.mode p q
  mode_after s p q (Claims e g low) = at_own s.mode p q
  mode_after s p q (Moves a i es n) = at_own s.mode p q
  mode_after s p q (Reports a g) = at_own s.mode p q
  mode_after s p q (Publishes e g) = at_own s.mode p q
  mode_after s p q l = refl

  pub call_after : (s : State K V F) (p q : ℕ) (l : Transition K V F) → (effect cmp hash gives s p l).call q ≡ cond (p == q) (next_call s p l) (s.call q)
  unfolding next_call
  call_after s p q (Begins c w) = refl
  call_after s p q l = at_own s.call p q

  pub names_own : (p q : ℕ) (l : Transition K V F) → (q ≡ p → ⊥) → names q (label cmp hash gives p l) ≡ false
  names_own p q (Opens e) ne = refl
  names_own p q (Places e) ne = refl
  names_own p q (Moves a i es n) ne = refl
  names_own p q (Publishes e g) ne = refl
  names_own p q l ne = ne_eqb p q (λ h. ne (sym h))

  -- what the party's own mode and call have after its transition, and others' have that stayed, each party's have
  pub own_or_other : (Q : ℕ → Option (Call K V F) → Mode K V → Type 0) (s : State K V F) (p q : ℕ) (l : Transition K V F) → Q p (next_call s p l) (next_mode s p l) → ((q ≡ p → ⊥) → Q q (s.call q) (other_mode l q (s.mode q)))
      → Q q ((effect cmp hash gives s p l).call q) ((effect cmp hash gives s p l).mode q)
  own_or_other Q s p q l own other = subst₂ (Q q) (sym (call_after s p q l)) (sym (mode_after s p q l)) (go (p == q) refl)
    where
      go : (b : Bool) → (p == q) ≡ b → Q q (cond b (next_call s p l) (s.call q)) (cond b (next_mode s p l) (other_mode l q (s.mode q)))
      go true e = subst (λ q. Q q (next_call s p l) (next_mode s p l)) (eqb-true p q e) own
      go false e = other (λ h. eqb-false p q e (sym h))

  pub mode_other : (s : State K V F) (p q : ℕ) (l : Transition K V F) → (q ≡ p → ⊥) → (effect cmp hash gives s p l).mode q ≡ other_mode l q (s.mode q)
  mode_other s p q l ne = mode_after s p q l ∙ cond-false (p == q) (next_mode s p l) (other_mode l q (s.mode q)) (ne_eqb p q (λ h. ne (sym h)))

  pub call_other : (s : State K V F) (p q : ℕ) (l : Transition K V F) → (q ≡ p → ⊥) → (effect cmp hash gives s p l).call q ≡ s.call q
  call_other s p q l ne = call_after s p q l ∙ cond-false (p == q) (next_call s p l) (s.call q) (ne_eqb p q (λ h. ne (sym h)))
