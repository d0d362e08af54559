-- The labels of one party.
use Rattle.std.specs.Prelude.{ℕ, ◌≤◌, ◌==◌, Bool, true, false, cond, ◌||◌, ◌∷◌, ◌+◌, length, Option, Some, None, is_some, ◌≡◌, ◌⊎◌, ⊤}
use Rattle.std.specs.declared.cmp.Ordering.{Ordering}
use Rattle.std.specs.Cmp.{IsTotalOrder}
use Rattle.std.proofs.Common.{arith, refl, sym, ◌∙◌, ap, subst, inl, inr}
use Rattle.std.proofs.lemmas.Grind.{common_steps}
use Rattle.std.proofs.lemmas.Bool.{eqb-true, eqb-false, eq-eqb, cases_eq, cond-false}
use Rattle.flurry_steps_theory.specs.Map.{same}
use Rattle.flurry_steps_theory.specs.Trace.{Trace, names, call_begun_by, decision, has_replied, has_closed}
use Rattle.flurry_steps_theory.specs.Machine.{State, Transition, Enabled, next_state, effect, label, settle, found_by, mode_at_table, Mode, Looking, Walking, Clearing, Done, Finished, Begins, Counts, Finds, Opens, FindsNothing, IsRefused, DecidesEmpty, Passes, Decides, Claims, Moves, Reports, Publishes, Reads, Leaves, Splits, Wipes, SplitsClear, Replies, Ends, update, is_complete, with_report}
use Rattle.flurry_steps_theory.specs.Invariant.{IsParty, one_key}
use Rattle.flurry_steps_theory.proofs.OwnSteps.{onward_is, mode_other, call_other, other_mode, names_own}
use Rattle.flurry_steps_theory.proofs.Ranges.{place_here, place_other}
use Rattle.flurry_steps_theory.proofs.Refusals.{refused_at_work}
use Rattle.flurry_steps_theory.proofs.Settled.{party_settled}
use Rattle.flurry_base.specs.declared.call.Call.{Call}
use Rattle.flurry_base.specs.declared.call.Call.TheVariants.{Reserve, Walk, Clear}
use Rattle.flurry_base.specs.declared.reply.KeptReply.{KeptReply}
use Rattle.flurry_base.specs.declared.verdict.Verdict.{Verdict}
use Rattle.flurry_steps_theory.specs.declared.Label.{Label}
use Rattle.flurry_steps_theory.specs.declared.Label.TheVariants.{Begin, Decide, Refused, End, Reply as Replied}

-- at work, and undecided
abbrev is_open : {K V : Type 0} → Mode K V → Bool
is_open Finished = false
is_open (Done (Some r) added removed) = false
is_open m = true

module _ {K V F : Type 0} where
  -- the labels say the same of the party
  abbrev SameLabels : Trace K V F → Trace K V F → ℕ → Type 0
  SameLabels t u p = (call_begun_by u p ≡ call_begun_by t p) × (decision u p ≡ decision t p) × (has_replied u p ≡ has_replied t p) × (has_closed u p ≡ has_closed t p)

  -- and so they do behind a label that does not name it
  unnamed : (t : Trace K V F) (l : Label K V F) (p : ℕ) → names p l ≡ false → SameLabels t (l ∷ t) p
  unnamed t (Begin q c) p n = (cond-false (q == p) (Some c) (call_begun_by t p) n, refl, refl, refl)
  unnamed t (Decide q r) p n = (refl, cond-false (q == p) (Some r) (decision t p) n, refl, refl)
  unnamed t (Replied q r) p n = (refl, refl, ap (λ b. b || has_replied t p) n, refl)
  unnamed t (Refused q) p n = (refl, refl, refl, ap (λ b. b || has_closed t p) n)
  unnamed t (End q) p n = (refl, refl, refl, ap (λ b. b || has_closed t p) n)
  unnamed t l p n = (refl, refl, refl, refl)

  -- a party's call, mode and labels are the same, and where it has not begun, so are its claim and what it was told
  keeps_party : (s z : State K V F) (p : ℕ) → SameLabels s.trace z.trace p → z.call p ≡ s.call p → z.mode p ≡ s.mode p → (z.parties ≤ p → (s.parties ≤ p) × (z.claim p ≡ None) × (z.told p ≡ None)) → IsParty s p → IsParty z p
  keeps_party s z p t c m fresh o = record {
    call = t.0 ∙ o.call ∙ sym c;
    beyond = λ l. let f : (s.parties ≤ p) × (z.claim p ≡ None) × (z.told p ≡ None) = fresh l in let u = o.beyond f.0 in (c ∙ u.0, m ∙ u.1, f.1, t.1 ∙ u.3, t.2 ∙ u.4, t.3 ∙ u.5, f.2);
    going = λ n. let g = o.going (λ x. n (m ∙ x)) in (t.2 ∙ g.0, t.3 ∙ g.1, ap is_some c ∙ g.2);
    no_decision = λ d n. t.1 ∙ o.no_decision (λ r a b x. d r a b (m ∙ x)) (λ x. n (m ∙ x));
    decided = λ r a b x. t.1 ∙ o.decided r a b (sym m ∙ x);
    looking = λ e x. ap one_key c ∙ o.looking e (sym m ∙ x);
    walking = λ e i fs x. c ∙ o.walking e i fs (sym m ∙ x);
    end_label = λ x y. go (o.end_label (sym m ∙ x) (ap is_some (sym c) ∙ y));
    reply_decision = λ x. ap is_some t.1 ∙ o.reply_decision (sym t.2 ∙ x);
    refused = λ x y. t.1 ∙ o.refused (sym t.3 ∙ x) (ap one_key (sym c) ∙ y);
    clearing = λ w e i fs x. c ∙ o.clearing w e i fs (sym m ∙ x);
  }
    where
      go : (has_replied s.trace p ≡ true) ⊎ (has_closed s.trace p ≡ true) → (has_replied z.trace p ≡ true) ⊎ (has_closed z.trace p ≡ true)
      go (inl x) = inl (t.2 ∙ x)
      go (inr x) = inr (t.3 ∙ x)

  -- where nothing of it changes
  stays_party : (s z : State K V F) (p : ℕ) → SameLabels s.trace z.trace p → z.call p ≡ s.call p → z.mode p ≡ s.mode p → (z.parties ≤ p → s.parties ≤ p) → z.claim p ≡ s.claim p → z.told p ≡ s.told p → IsParty s p → IsParty z p
  stays_party s z p t c m n claim told o = keeps_party s z p t c m (λ l. (n l, claim ∙ (o.beyond (n l)).2, told ∙ (o.beyond (n l)).6)) o

  -- a mode of a party at work, undecided, with this call
  abbrev Fits : Option (Call K V F) → Mode K V → Type 0
  Fits call (Looking e) = one_key call ≡ true
  Fits call (Walking e i fs) = call ≡ Some Walk
  Fits call (Clearing wiped e i fs) = call ≡ Some Clear
  Fits call (Done (Some r) added removed) = ⊥
  Fits call Finished = ⊥
  Fits call m = ⊤

  found_fits : (c : Call K V F) (e : ℕ) → Fits (Some c) (mode_at_table e c)
  found_fits (Reserve n) e = tt
  found_fits c e = refl

  -- its step, at work, with the same call
  module _ (s z : State K V F) (p : ℕ) (c : z.call p ≡ s.call p) (n : z.parties ≡ s.parties) (begun : call_begun_by z.trace p ≡ call_begun_by s.trace p) (o : IsParty s p) where
    known : (s.mode p ≡ Finished → ⊥) → z.parties ≤ p → ⊥
    known unfinished l = unfinished (o.beyond (subst (λ n. n ≤ p) n l)).1

    unfinished : is_open (s.mode p) ≡ true → s.mode p ≡ Finished → ⊥
    unfinished open_yet x = grind (arith, open_yet, x)

    finishes : (s.mode p ≡ Finished → ⊥) → z.mode p ≡ Finished → (has_replied z.trace p ≡ true) ⊎ (has_closed z.trace p ≡ true) → (has_replied z.trace p ≡ true → is_some (decision z.trace p) ≡ true) → (has_closed z.trace p ≡ true → one_key (z.call p) ≡ true → decision z.trace p ≡ None) → IsParty z p
    finishes working m over reply_decision refused = record {
      call = begun ∙ o.call ∙ sym c;
      beyond = λ l. absurd (known working l);
      going = λ x. absurd (x m);
      no_decision = λ _ x. absurd (x m);
      decided = λ r a b x. absurd (grind (arith, m, x));
      looking = λ e x. absurd (grind (arith, m, x));
      walking = λ e i fs x. absurd (grind (arith, m, x));
      end_label = λ _ _. over;
      reply_decision = reply_decision;
      refused = refused;
      clearing = λ w e i fs x. absurd (grind (arith, m, x));
    }

    decides : is_open (s.mode p) ≡ true → (r : KeptReply K V) (added removed : ℕ) → z.mode p ≡ Done (Some r) added removed → decision z.trace p ≡ Some r → has_replied z.trace p ≡ has_replied s.trace p → has_closed z.trace p ≡ has_closed s.trace p → IsParty z p
    decides open_yet r added removed m d replied closed = record {
      call = begun ∙ o.call ∙ sym c;
      beyond = λ l. absurd (known (unfinished open_yet) l);
      going = λ _. (replied ∙ going_on.0, closed ∙ going_on.1, ap is_some c ∙ going_on.2);
      no_decision = λ x _. absurd (x r added removed m);
      decided = λ q a b x. grind (arith, m, d, x);
      looking = λ e x. absurd (grind (arith, m, x));
      walking = λ e i fs x. absurd (grind (arith, m, x));
      end_label = λ x _. absurd (grind (arith, m, x));
      reply_decision = λ _. ap is_some d;
      refused = λ x. absurd (grind (arith, x, closed, going_on.1));
      clearing = λ w e i fs x. absurd (grind (arith, m, x));
    }
      where
        going_on : (has_replied s.trace p ≡ false) × (has_closed s.trace p ≡ false) × (is_some (s.call p) ≡ true)
        going_on = o.going (unfinished open_yet)

    -- on to a mode that fits its call
    goes_on : (m : Mode K V) → z.mode p ≡ m → is_open (s.mode p) ≡ true → SameLabels s.trace z.trace p → Fits (s.call p) m → IsParty z p
    goes_on m now open_yet t f = record {
      call = begun ∙ o.call ∙ sym c;
      beyond = λ l. absurd (known (unfinished open_yet) l);
      going = λ _. (t.2 ∙ going_on.0, t.3 ∙ going_on.1, ap is_some c ∙ going_on.2);
      no_decision = λ _ _. none;
      decided = λ r a b x. absurd (subst (Fits (s.call p)) (sym now ∙ x) f);
      looking = λ e x. ap one_key c ∙ subst (Fits (s.call p)) (sym now ∙ x) f;
      walking = λ e i fs x. c ∙ subst (Fits (s.call p)) (sym now ∙ x) f;
      end_label = λ x _. absurd (subst (Fits (s.call p)) (sym now ∙ x) f);
      reply_decision = λ x. absurd (grind (arith, x, t.2, going_on.0));
      refused = λ _ _. none;
      clearing = λ w e i fs x. c ∙ subst (Fits (s.call p)) (sym now ∙ x) f;
    }
      where
        going_on : (has_replied s.trace p ≡ false) × (has_closed s.trace p ≡ false) × (is_some (s.call p) ≡ true)
        going_on = o.going (unfinished open_yet)

        none : decision z.trace p ≡ None
        none = t.1 ∙ o.no_decision (λ r a b x. grind (arith, open_yet, x)) (unfinished open_yet)

module _ {K V F : Type 0} (cmp : K → K → Ordering) (total : IsTotalOrder cmp) (hash : K → ℕ) (lawful : (j k : K) → same cmp j k ≡ true → hash j ≡ hash k) (gives : F → K → Option V → Verdict V → Type 0) where
  -- a party that has begun stays so
  more_parties : (s : State K V F) (p q : ℕ) (l : Transition K V F) → Enabled cmp hash gives s p l → (next_state cmp hash gives s p l).parties ≤ q → s.parties ≤ q
  more_parties s p q (Begins c w) can m = omega (arith, can.0, m)
  more_parties s p q l can m = m

  -- what another party claims, and what it was told, stays
  claim_other : (s : State K V F) (p q : ℕ) (l : Transition K V F) → (q ≡ p → ⊥) → (effect cmp hash gives s p l).claim q ≡ s.claim q
  claim_other s p q (Begins c w) ne = place_other s.claim p q _ ne
  claim_other s p q (Claims e g low) ne = place_other s.claim p q _ ne
  claim_other s p q (Moves a i es n) ne = place_other s.claim p q _ ne
  claim_other s p q (Reports a g) ne = place_other s.claim p q _ ne
  claim_other s p q l ne = refl

  told_other : (s : State K V F) (p q : ℕ) (l : Transition K V F) → (q ≡ p → ⊥) → (effect cmp hash gives s p l).told q ≡ s.told q
  told_other s p q (Begins c w) ne = place_other s.told p q _ ne
  told_other s p q (Publishes e g) ne = place_other s.told p q _ ne
  told_other s p q (Reports a g) ne = go (is_complete a.table (with_report g a))
    where
      go : (b : Bool) → cond b (update s.told p (Some a.table)) s.told q ≡ s.told q
      go true = place_other s.told p q (Some a.table) ne
      go false = refl
  told_other s p q l ne = refl

  -- so another party is the same, or the same with what it owed counted
  other_party : (s : State K V F) (p q : ℕ) (l : Transition K V F) → Enabled cmp hash gives s p l → (q ≡ p → ⊥) → IsParty s q → IsParty (next_state cmp hash gives s p l) q
  unfolding other_mode
  other_party s p q (Counts whose) can ne h = stays_party (settle whose s) _ q (refl, refl, refl, refl) refl refl (λ l. l) refl refl (party_settled whose s q h)
  other_party s p q l can ne h = stays_party s _ q (unnamed s.trace (label cmp hash gives p l) q (names_own cmp total hash lawful gives p q l ne)) (call_other cmp total hash lawful gives s p q l ne) (mode_other cmp total hash lawful gives s p q l ne) (more_parties s p q l can) (claim_other s p q l ne) (told_other s p q l ne) h

  -- the party itself
  own_party : (s : State K V F) (p : ℕ) (l : Transition K V F) → Enabled cmp hash gives s p l → IsParty s p → IsParty (next_state cmp hash gives s p l) p
  own_party s p (Begins c w) can o = record {
    call = grind (arith, common_steps, can, o.call, eqb-true, eqb-false);
    beyond = λ l. absurd (omega (arith, l));
    going = grind (arith, common_steps, can, o.beyond, eqb-true, eqb-false);
    no_decision = grind (arith, common_steps, can, o.beyond, eqb-true, eqb-false);
    decided = grind (arith, common_steps, can, eqb-true, eqb-false);
    looking = grind (arith, common_steps, can, eqb-true, eqb-false);
    walking = grind (arith, common_steps, can, eqb-true, eqb-false);
    end_label = grind (arith, common_steps, can, eqb-true, eqb-false);
    reply_decision = grind (arith, common_steps, can, o.beyond, o.reply_decision, eqb-true, eqb-false);
    refused = grind (arith, common_steps, can, o.beyond, eqb-true, eqb-false);
    clearing = grind (arith, common_steps, can, eqb-true, eqb-false);
  }
  own_party s p (Counts whose) can o = stays_party (settle whose s) _ p (refl, refl, refl, refl) refl refl (λ l. l) refl refl (party_settled whose s p o)
  own_party s p (Claims e g low) can o = keeps_party s _ p (refl, refl, refl, refl) refl refl (λ l. absurd (omega (arith, l, can.1))) o
  own_party s p (Moves a i es n) can o = keeps_party s _ p (refl, refl, refl, refl) refl refl (λ l. absurd (grind (arith, (o.beyond l).2, can.0))) o
  own_party s p (Reports a g) can o = keeps_party s _ p (refl, refl, refl, refl) refl refl (λ l. absurd (grind (arith, (o.beyond l).2, can.0))) o
  own_party s p (Publishes e g) can o = keeps_party s _ p (refl, refl, refl, refl) refl refl (λ l. absurd (grind (arith, (o.beyond l).6, can.0))) o
  own_party s p (Finds e) can o = goes_on s _ p refl refl refl o _ (place_here s.mode p _) (ap is_open can.2) (refl, refl, refl, refl) (subst (λ d. Fits d (found_by cmp hash gives d e)) (sym can.1) (found_fits can.0 e))
  own_party s p (Opens e) can o = goes_on s _ p refl refl refl o _ (place_here s.mode p _) (ap is_open can.2) (refl, refl, refl, refl) (subst (λ d. Fits d (found_by cmp hash gives d e)) (sym can.1) (found_fits can.0 e))
  own_party s p FindsNothing can o = goes_on s _ p refl refl refl o _ (place_here s.mode p _) (ap is_open can.2) (refl, refl, refl, refl) tt
  own_party s p (Passes e) can o = goes_on s _ p refl refl refl o _ (place_here s.mode p _) (ap is_open can.4) (refl, refl, refl, refl) (o.looking e can.4)
  own_party s p (Reads e i f fs es n x) can o = goes_on s _ p refl refl refl o _ (place_here s.mode p _) (ap is_open can.0) (refl, refl, refl, refl) (o.walking e i (f ∷ fs) can.0)
  own_party s p (Leaves e i f fs es n) can o = goes_on s _ p refl refl refl o _ (place_here s.mode p _) (ap is_open can.0) (refl, refl, refl, refl) (onward_is (Fits (s.call p)) Walking (Done None 0 0) e i fs (λ _ _. o.walking e i (f ∷ fs) can.0) tt)
  own_party s p (Splits e i f fs) can o = goes_on s _ p refl refl refl o _ (place_here s.mode p _) (ap is_open can.0) (refl, refl, refl, refl) (o.walking e i (f ∷ fs) can.0)
  own_party s p (Wipes wiped e i f fs es n) can o = goes_on s _ p refl refl refl o _ (place_here s.mode p _) (ap is_open can.0) (refl, refl, refl, refl) (onward_is (Fits (s.call p)) (Clearing (wiped + length es)) (Done None 0 (wiped + length es)) e i fs (λ _ _. o.clearing wiped e i (f ∷ fs) can.0) tt)
  own_party s p (SplitsClear wiped e i f fs) can o = goes_on s _ p refl refl refl o _ (place_here s.mode p _) (ap is_open can.0) (refl, refl, refl, refl) (o.clearing wiped e i (f ∷ fs) can.0)
  own_party s p (DecidesEmpty c r) can o = decides s _ p refl refl refl o (ap is_open can.1) r 0 0 (place_here s.mode p _) (place_here (decision s.trace) p (Some r)) refl refl
  own_party s p (Decides c k e es n r fs m) can o = decides s _ p refl refl refl o (ap is_open can.2) r _ _ (place_here s.mode p _) (place_here (decision s.trace) p (Some r)) refl refl
  own_party s p IsRefused can o = let w = refused_at_work cmp hash gives s p can in finishes s _ p refl refl refl o w.0 (place_here s.mode p Finished) (inr (ap (λ b. b || has_closed s.trace p) (eq-eqb p p refl))) o.reply_decision (λ _ _. o.no_decision w.1 w.0)
  own_party s p (Replies r) can o = finishes s _ p refl refl refl o (λ x. grind (arith, x, can.3)) (place_here s.mode p Finished) (inl (ap (λ b. b || has_replied s.trace p) (eq-eqb p p refl))) (λ _. ap is_some (o.decided r 0 0 can.3)) o.refused
  own_party s p Ends can o = finishes s _ p refl refl refl o (λ x. grind (arith, x, can.3)) (place_here s.mode p Finished) (inr (ap (λ b. b || has_closed s.trace p) (eq-eqb p p refl))) o.reply_decision (λ _ y. absurd (grind (arith, common_steps, y, can)))
  own_party s p l can o = stays_party s _ p (refl, refl, refl, refl) refl refl (λ n. n) refl refl o

  pub party_ok : (s : State K V F) (p q : ℕ) (l : Transition K V F) → Enabled cmp hash gives s p l → IsParty s p → IsParty s q → IsParty (next_state cmp hash gives s p l) q
  party_ok s p q l can own h = go (cases_eq q p)
    where
      go : (q ≡ p) ⊎ (q ≡ p → ⊥) → IsParty (next_state cmp hash gives s p l) q
      go (inl e) = subst (IsParty (next_state cmp hash gives s p l)) (sym e) (own_party s p l can own)
      go (inr ne) = other_party s p q l can ne h
