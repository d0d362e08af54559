-- Look-ups decide within 32 steps, and then reply.
use Rattle.std.specs.Prelude.{length, ℕ, suc, ◌+◌, ◌<◌, ◌≤◌, true, false, Option, Some, None, is_some, if◌then◌else◌, ◌≡◌, ◌⊎◌}
use Rattle.std.specs.declared.cmp.Ordering.{Ordering}
use Rattle.std.specs.Cmp.{IsTotalOrder}
use Rattle.std.proofs.Common.{arith, refl, sym, ◌∙◌, ap, subst, inl, inr}
use Rattle.std.proofs.lemmas.Bool.{cases_eq}
use Rattle.flurry_steps_theory.specs.Map.{same}
use Rattle.flurry_steps_theory.specs.Trace.{decision, has_replied, has_closed, is_lookup}
use Rattle.flurry_steps_theory.specs.Legal.{IsWalk, IsClear}
use Rattle.flurry_steps_theory.specs.Machine.{State, Transition, Enabled, next_state, steps_after, update, found_by, Mode, Locating, Looking, Walking, Clearing, Done, Finished, Begins, Quiet, Loses, Finds, Opens, FindsNothing, IsRefused, DecidesEmpty, Passes, Decides, Replies, Ends}
use Rattle.flurry_steps_theory.specs.Invariant.{IsParty, Tables, IsPartition, NamesNoUnborn, key_in, one_key, Waits, LooksUp}
use Rattle.flurry_steps_theory.proofs.Refusals.{refused_at_work}
use Rattle.flurry_steps_theory.proofs.Ranges.{home_limit, place_here, place_other}
use Rattle.flurry_steps_theory.proofs.Tables.{same_some}
use Rattle.flurry_steps_theory.proofs.Settled.{waits_settled}
use Rattle.flurry_steps_theory.proofs.OwnSteps.{next_mode, next_call, other_keeps, own_or_other}
use Rattle.flurry_base.specs.declared.call.Call.{Call}
use Rattle.flurry_base.specs.declared.call.Call.TheVariants.{Get, GetKeyValue, ContainsKey}
use Rattle.flurry_base.specs.declared.reply.KeptReply.{KeptReply}
use Rattle.flurry_base.specs.declared.verdict.Verdict.{Verdict}
use Rattle.flurry_base.specs.declared.sizes.TheConstants.{TABLES}

module _ {K V F : Type 0} (cmp : K → K → Ordering) (total : IsTotalOrder cmp) (hash : K → ℕ) (lawful : (j k : K) → same cmp j k ≡ true → hash j ≡ hash k) (gives : F → K → Option V → Verdict V → Type 0) where
  -- a look-up has a key, and goes on where it found a table
  lookup_key : (call : Option (Call K V F)) → is_lookup call ≡ true → (k : K) × (key_in call ≡ Some k) × ((e : ℕ) → found_by cmp hash gives call e ≡ Looking e)
  lookup_key (Some (Get k)) h = (k, refl, λ e. refl)
  lookup_key (Some (GetKeyValue k)) h = (k, refl, λ e. refl)
  lookup_key (Some (ContainsKey k)) h = (k, refl, λ e. refl)
  lookup_key call h = absurd (grind (arith, h))

  lookup_one_key : (call : Option (Call K V F)) → is_lookup call ≡ true → one_key call ≡ true
  lookup_one_key None h = absurd (grind (arith, h))
  lookup_one_key (Some c) h = ap is_some (lookup_key (Some c) h).1

  -- a look-up is no walk and no clear
  lookup_other : (c : Call K V F) → is_lookup (Some c) ≡ true → IsWalk c ⊎ IsClear c → ⊥
  lookup_other (Get k) h w = grind (arith, w)
  lookup_other (GetKeyValue k) h w = grind (arith, w)
  lookup_other (ContainsKey k) h w = grind (arith, w)
  lookup_other c h w = grind (arith, h)

  lookup_begun : (call : Option (Call K V F)) → is_lookup call ≡ true → is_some call ≡ true
  lookup_begun None h = absurd (grind (arith, h))
  lookup_begun (Some c) h = refl

  -- its step is one more
  raised : (call : Option (Call K V F)) (n : ℕ) → is_lookup call ≡ true → ◌≡◌ {A = ℕ} (if is_some call then suc n else n) (suc n)
  raised None n h = absurd (grind (arith, h))
  raised (Some c) n h = refl

  own_waits : (s : State K V F) (p : ℕ) (l : Transition K V F) → Enabled cmp hash gives s p l → IsParty s p → Waits (s.call p) (s.mode p) (s.steps p) → Waits (next_call cmp total hash lawful gives s p l) (next_mode cmp total hash lawful gives s p l) (steps_after cmp hash gives s p l)
  unfolding next_mode next_call
  own_waits s p (Begins c y) can o w = λ h. (λ m. refl, λ d m. absurd (grind (arith, m)), λ a b m. grind (arith, m))
  own_waits s p Quiet can o w = λ h. (λ m. absurd (grind (arith, m, can h)), λ d m. absurd (grind (arith, m, can h)), λ a b m. grind (arith, m, can h))
  own_waits s p Loses can o w = w
  own_waits s p (Finds e) can o w = λ h. (λ m. absurd (grind (arith, m, (lookup_key (s.call p) h).2 e)), λ d m. omega (arith, (w h).0 can.2, raised (s.call p) (s.steps p) h), λ a b m. grind (arith, m, (lookup_key (s.call p) h).2 e))
  own_waits s p (Opens e) can o w = λ h. (λ m. absurd (grind (arith, m, (lookup_key (s.call p) h).2 e)), λ d m. omega (arith, (w h).0 can.2, raised (s.call p) (s.steps p) h), λ a b m. grind (arith, m, (lookup_key (s.call p) h).2 e))
  own_waits s p FindsNothing can o w = λ h. absurd (lookup_other can.0 (subst (λ c. is_lookup c ≡ true) can.1 h) can.4)
  own_waits s p IsRefused can o w = λ h. (λ m. absurd (grind (arith, m)), λ d m. absurd (grind (arith, m)), λ a b m. grind (arith, m))
  own_waits s p (DecidesEmpty c r) can o w = λ h. (λ m. absurd (grind (arith, m)), λ d m. absurd (grind (arith, m)), λ a b m. grind (arith, m))
  own_waits s p (Passes e) can o w = λ h. (λ m. absurd (grind (arith, m)), λ d m. grind (arith, m, (w h).1 e can.4, raised (s.call p) (s.steps p) h), λ a b m. grind (arith, m))
  own_waits s p (Decides c k e es n r fs m) can o w = λ h. (λ m. absurd (grind (arith, m)), λ d m. absurd (grind (arith, m)), λ a b m. grind (arith, m))
  own_waits s p (Replies r) can o w = λ h. (λ m. absurd (grind (arith, m)), λ d m. absurd (grind (arith, m)), λ a b m. grind (arith, m))
  own_waits s p Ends can o w = λ h. (λ m. absurd (grind (arith, m)), λ d m. absurd (grind (arith, m)), λ a b m. grind (arith, m))
  own_waits s p l can o w = λ h. absurd (grind (arith, h, can, o.walking, o.clearing))

  pub waits_ok : (s : State K V F) (p q : ℕ) (l : Transition K V F) → Enabled cmp hash gives s p l → IsParty s p → ((q : ℕ) → Waits (s.call q) (s.mode q) (s.steps q)) → Waits ((next_state cmp hash gives s p l).call q) ((next_state cmp hash gives s p l).mode q) ((next_state cmp hash gives s p l).steps q)
  waits_ok s p q l can o w = own_or_other cmp total hash lawful gives (λ q c m. Waits c m (update s.steps p (steps_after cmp hash gives s p l) q)) s p q l
      (subst (Waits (next_call cmp total hash lawful gives s p l) (next_mode cmp total hash lawful gives s p l)) (sym (place_here s.steps p (steps_after cmp hash gives s p l))) (own_waits s p l can o (w p)))
      (λ ne. other_keeps cmp total hash lawful gives (λ m. Waits (s.call q) m (update s.steps p (steps_after cmp hash gives s p l) q)) (waits_settled (s.call q) (update s.steps p (steps_after cmp hash gives s p l) q)) l q (s.mode q)
      (subst (Waits (s.call q) (s.mode q)) (sym (place_other s.steps p q (steps_after cmp hash gives s p l) ne)) (w q)))

  -- a transition is one step at most
  by_call : (call : Option (Call K V F)) (n : ℕ) → (if is_some call then suc n else n) ≤ suc n
  by_call None n = omega arith
  by_call (Some c) n = omega arith

  one_step : (s : State K V F) (p : ℕ) (l : Transition K V F) → steps_after cmp hash gives s p l ≤ suc (s.steps p)
  one_step s p (Begins c y) = omega arith
  one_step s p Loses = omega arith
  one_step s p l = by_call (s.call p) (s.steps p)

  pub steps_ok : (s : State K V F) (p q : ℕ) (l : Transition K V F) → ((q : ℕ) → s.steps q ≤ length s.trace) → (next_state cmp hash gives s p l).steps q ≤ suc (length s.trace)
  steps_ok s p q l h = go (cases_eq q p)
    where
      go : (q ≡ p) ⊎ (q ≡ p → ⊥) → update s.steps p (steps_after cmp hash gives s p l) q ≤ suc (length s.trace)
      go (inl e) = omega (arith, ap (update s.steps p (steps_after cmp hash gives s p l)) e, place_here s.steps p (steps_after cmp hash gives s p l), one_step s p l, h p)
      go (inr ne) = omega (arith, place_other s.steps p q (steps_after cmp hash gives s p l) ne, h q)

  -- THE LAW
  in_time : (home : ℕ → ℕ) (s : State K V F) (p : ℕ) → IsParty s p → Tables cmp hash home s → IsPartition s → NamesNoUnborn hash (is_some s.published) home s.start (s.call p) (s.mode p) → Waits (s.call p) (s.mode p) (s.steps p)
      → is_lookup (s.call p) ≡ true → decision s.trace p ≡ None → has_closed s.trace p ≡ false → s.steps p < TABLES + 1
  in_time home s p o t u nm w h d c = go (s.mode p) refl
    where
      over : (has_replied s.trace p ≡ true) ⊎ (has_closed s.trace p ≡ true) → ⊥
      over (inl r) = grind (arith, d, o.reply_decision r)
      over (inr r) = grind (arith, c, r)

      go : (m : Mode K V) → s.mode p ≡ m → s.steps p < TABLES + 1
      go Locating e = omega (arith, (w h).0 e)
      go (Looking i) e =
          let q : NamesNoUnborn hash (is_some s.published) home s.start (s.call p) (Looking i) = subst (λ m. NamesNoUnborn hash (is_some s.published) home s.start (s.call p) m) e nm in
          let k : (k : K) × (key_in (s.call p) ≡ Some k) × ((e : ℕ) → found_by cmp hash gives (s.call p) e ≡ Looking e) = lookup_key (s.call p) h in
          omega (arith, (w h).1 i e, q.2 k.0 k.1, home_limit cmp hash gives home s (hash k.0) t u q.0)
      go (Walking i j fs) e = absurd (grind (arith, h, o.walking i j fs e))
      go (Clearing wiped i j fs) e = absurd (grind (arith, h, o.clearing wiped i j fs e))
      go (Done None x y) e = absurd ((w h).2 x y e)
      go (Done (Some r) x y) e = absurd (grind (arith, d, o.decided r x y e))
      go Finished e = absurd (over (o.end_label e (lookup_begun (s.call p) h)))

  next_reply : (s : State K V F) (p : ℕ) → IsParty s p → is_lookup (s.call p) ≡ true → (r : KeptReply K V) → decision s.trace p ≡ Some r → has_replied s.trace p ≡ false → (l : Transition K V F) → Enabled cmp hash gives s p l → (l ≡ Replies r) ⊎ (l ≡ Loses)
  next_reply s p o h r d rp (Begins c y) can = absurd (grind (arith, h, (o.beyond (omega (arith, can.0))).0))
  next_reply s p o h r d rp Quiet can = absurd (over (o.end_label (can h) (lookup_begun (s.call p) h)))
    where
      over : (has_replied s.trace p ≡ true) ⊎ (has_closed s.trace p ≡ true) → ⊥
      over (inl q) = grind (arith, rp, q)
      over (inr q) = grind (arith, d, o.refused q (lookup_one_key (s.call p) h))
  next_reply s p o h r d rp Loses can = inr refl
  next_reply s p o h r d rp IsRefused can = absurd (grind (arith, d, o.no_decision (refused_at_work cmp hash gives s p can).1 (refused_at_work cmp hash gives s p can).0))
  next_reply s p o h r d rp (DecidesEmpty c q) can = absurd (grind (arith, d, o.no_decision (λ _ _ _ z. grind (arith, z, can.1)) (λ z. grind (arith, z, can.1))))
  next_reply s p o h r d rp (Passes e) can = absurd (grind (arith, d, o.no_decision (λ _ _ _ z. grind (arith, z, can.4)) (λ z. grind (arith, z, can.4))))
  next_reply s p o h r d rp (Replies q) can = inl (ap Replies (same_some (sym (o.decided q 0 0 can.3) ∙ d)))
  next_reply s p o h r d rp Ends can = absurd (grind (arith, can.2, lookup_one_key (Some can.0) (subst (λ c. is_lookup c ≡ true) can.1 h)))
  next_reply s p o h r d rp (Finds e) can = absurd (grind (arith, d, o.no_decision (λ _ _ _ z. grind (arith, z, can.2)) (λ z. grind (arith, z, can.2))))
  next_reply s p o h r d rp (Opens e) can = absurd (grind (arith, d, o.no_decision (λ _ _ _ z. grind (arith, z, can.2)) (λ z. grind (arith, z, can.2))))
  next_reply s p o h r d rp FindsNothing can = absurd (grind (arith, d, o.no_decision (λ _ _ _ z. grind (arith, z, can.2)) (λ z. grind (arith, z, can.2))))
  next_reply s p o h r d rp (Decides c k e es n q fs m) can = absurd (grind (arith, d, o.no_decision (λ _ _ _ z. grind (arith, z, can.2)) (λ z. grind (arith, z, can.2))))
  next_reply s p o h r d rp l can = absurd (grind (arith, h, can, o.walking, o.clearing))

  pub looks_up : (home : ℕ → ℕ) (s : State K V F) (p : ℕ) → IsParty s p → Tables cmp hash home s → IsPartition s → NamesNoUnborn hash (is_some s.published) home s.start (s.call p) (s.mode p) → Waits (s.call p) (s.mode p) (s.steps p) → LooksUp cmp hash gives s p
  looks_up home s p o t u nm w = record { in_time = in_time home s p o t u nm w; replies_next = next_reply s p o }
