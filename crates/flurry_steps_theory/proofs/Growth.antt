-- The labels of growths, and that they are lawful.
use Rattle.std.specs.Prelude.{⊤, ℕ, suc, false, List, ◌∷◌, Option, Some, None, ◌≡◌}
use Rattle.std.specs.declared.cmp.Ordering.{Ordering}
use Rattle.std.proofs.Common.{arith, refl, ◌∙◌}
use Rattle.std.proofs.lemmas.Bool.{eq-eqb, ne_eqb, false_from_ne_true}
use Rattle.flurry_steps_theory.specs.Map.{Allows, CanBeRefused}
use Rattle.flurry_steps_theory.specs.Trace.{was_moved_in, pairs}
use Rattle.flurry_steps_theory.specs.Bin.{Entry}
use Rattle.flurry_steps_theory.specs.Machine.{State, Claim, Growth, Transition, Enabled, next_state, label, Live, Done, Finished, Begins, Opens, IsRefused, DecidesEmpty, Decides, Places, Claims, Moves, Reports, Publishes, Reads, Wipes, Replies, Ends}
use Rattle.flurry_steps_theory.specs.Invariant.{IsParty, Tables, IsPartition, HasGrown}
use Rattle.flurry_steps_theory.proofs.Ranges.{told_moved}
use Rattle.flurry_steps_theory.proofs.Refusals.{refused_at_work}
use Rattle.flurry_steps_theory.specs.Legal.{CallMay, GrowthMay}
use Rattle.flurry_base.specs.declared.call.Call.{Call}
use Rattle.flurry_base.specs.declared.call.Call.TheVariants.{Clear, Walk}
use Rattle.flurry_base.specs.declared.reply.KeptReply.{KeptReply}
use Rattle.flurry_base.specs.declared.verdict.Verdict.{Verdict}
use Rattle.flurry_steps_theory.specs.declared.Label.TheVariants.{Refused}

module _ {K V F : Type 0} (cmp : K → K → Ordering) (hash : K → ℕ) (gives : F → K → Option V → Verdict V → Type 0) where
  pub grown_ok : (first : Option ℕ) (s : State K V F) (p : ℕ) (l : Transition K V F) → Enabled cmp hash gives s p l → IsPartition s → HasGrown first s → HasGrown first (next_state cmp hash gives s p l)
  grown_ok first s p (Opens e) can u w = record { number = refl; placed_next = λ d z h y. absurd (grind (arith, can.3, u.made z y)); unplaced = λ h. absurd (grind (arith, h)); unplaced_idle = λ _ j _ _ _. w.unplaced can.3 j; unplaced_above = λ _ j _ _. w.unplaced can.3 j }
  grown_ok first s p (Places e) can u w = record {
    number = w.number;
    placed_next = λ d z h y. grind (arith, h, can.0, eq-eqb);
    unplaced = λ h. absurd (grind (arith, h, can.0));
    unplaced_idle = λ _ _ h. absurd (grind (arith, h));
    unplaced_above = λ d j h l. grind (arith, h, l, can.0, w.unplaced_above d j h l, ne_eqb);
  }
  grown_ok first s p (Claims e g low) can u w = record { number = w.number; placed_next = λ d _ h _. w.placed_next d g h can.3; unplaced = w.unplaced; unplaced_idle = λ _ _ h. absurd (grind (arith, h)); unplaced_above = w.unplaced_above }
  grown_ok first s p (Reports a g) can u w = record { number = w.number; placed_next = λ d _ h _. w.placed_next d g h can.2; unplaced = w.unplaced; unplaced_idle = λ _ _ h. absurd (grind (arith, h)); unplaced_above = w.unplaced_above }
  grown_ok first s p (Publishes e g) can u w = record {
    number = refl;
    placed_next = λ d z h y. absurd (grind (arith, y));
    unplaced = λ h. absurd (grind (arith, h));
    unplaced_idle = λ d j _ h l. w.unplaced_above e j can.1 (grind (arith, h, l));
    unplaced_above = λ d j h l. w.unplaced_above e j can.1 (grind (arith, h, l));
  }
  grown_ok first s p l can u w = record { number = w.number; placed_next = w.placed_next; unplaced = w.unplaced; unplaced_idle = w.unplaced_idle; unplaced_above = w.unplaced_above }

  not_moved : (home : ℕ → ℕ) (s : State K V F) (d j : ℕ) (es : List (Entry K V)) (n : ℕ) → Tables cmp hash home s → s.slot d j ≡ Live es n → was_moved_in s.trace d j ≡ false
  not_moved home s d j es n t l = false_from_ne_true (was_moved_in s.trace d j) (λ m. grind (arith, t.is_moved d j m, l))

  growing : (s : State K V F) (p : ℕ) (a : Claim) → s.claim p ≡ Some a → IsPartition s → (g : Growth) × (s.growth ≡ Some g)
  growing s p a h u = go s.growth refl
    where
      go : (b : Option Growth) → s.growth ≡ b → (g : Growth) × (s.growth ≡ Some g)
      go None e = absurd (grind (arith, u.idle e p, h))
      go (Some g) e = (g, e)

  -- each label of a growth is lawful
  pub growth_lawful : (first : Option ℕ) (home : ℕ → ℕ) (s : State K V F) (p : ℕ) (l : Transition K V F) → Enabled cmp hash gives s p l → ((q : ℕ) → IsParty s q) → Tables cmp hash home s → IsPartition s → HasGrown first s → GrowthMay first s.trace (label cmp hash gives p l)
  growth_lawful first home s p (Opens e) can o t u w = w.number ∙ can.3
  growth_lawful first home s p (Places e) can o t u w = (e, w.number ∙ can.0, refl, w.unplaced_idle e (suc e) can.1 can.0 (omega arith))
  growth_lawful first home s p (Moves a i es n) can o t u w = (grind (arith, can, t.outside a.table i), w.placed_next a.table (growing s p a can.0 u).0 (u.claims p a can.0).0 (growing s p a can.0 u).1, not_moved home s a.table i es n t can.3)
  growth_lawful first home s p (Publishes e g) can o t u w = (e, w.number ∙ can.1, refl, λ i l. t.was_moved e i (told_moved cmp hash gives s p e g can o u i l))
  growth_lawful first home s p l can o t u w = tt

  -- the reply that the transition decides is one that the map allows, and so is a refusal
  abbrev pub AllowsNow : State K V F → ℕ → Transition K V F → Type 0
  AllowsNow s p (DecidesEmpty c r) = Allows cmp gives c (pairs cmp hash s.trace) r
  AllowsNow s p (Decides c k e es n r fs m) = Allows cmp gives c (pairs cmp hash s.trace) r
  AllowsNow s p IsRefused = (c : Call K V F) × (s.call p ≡ Some c) × CanBeRefused cmp gives c (pairs cmp hash s.trace)
  AllowsNow s p l = ⊤

  refused_lawful : (s : State K V F) (p : ℕ) → Enabled cmp hash gives s p IsRefused → IsParty s p → AllowsNow s p IsRefused → CallMay cmp hash gives s.trace (Refused p)
  refused_lawful s p can o a =
      let f : (s.mode p ≡ Finished → ⊥) × ((r : KeptReply K V) (a b : ℕ) → s.mode p ≡ Done (Some r) a b → ⊥) = refused_at_work cmp hash gives s p can in
      ((a.0, o.call ∙ a.1, a.2), o.no_decision f.1 f.0, (o.going f.0).1)

  -- each label of a call is lawful
  pub calls_lawful : (s : State K V F) (p : ℕ) (l : Transition K V F) → Enabled cmp hash gives s p l → IsParty s p → AllowsNow s p l → CallMay cmp hash gives s.trace (label cmp hash gives p l)
  calls_lawful s p (Begins c w) can o a = o.call ∙ (o.beyond (omega (arith, can.0))).0
  calls_lawful s p IsRefused can o a = refused_lawful s p can o a
  calls_lawful s p (DecidesEmpty c r) can o a = ((c, o.call ∙ can.0, a), o.no_decision (λ _ _ _ h. grind (arith, h, can)) (λ h. grind (arith, h, can)), (o.going (λ h. grind (arith, h, can))).1)
  calls_lawful s p (Decides c k e es n r fs m) can o a = ((c, o.call ∙ can.0, a), o.no_decision (λ _ _ _ h. grind (arith, h, can.2)) (λ h. grind (arith, h, can.2)), (o.going (λ h. grind (arith, h, can.2))).1)
  calls_lawful s p (Reads e i f fs es n x) can o a = ((Walk, o.call ∙ o.walking e i (f ∷ fs) can.0, refl), (o.going (λ h. grind (arith, h, can.0))).1)
  calls_lawful s p (Wipes wiped e i f fs es n) can o a = ((Clear, o.call ∙ o.clearing wiped e i (f ∷ fs) can.0, refl), (o.going (λ h. grind (arith, h, can.0))).1)
  calls_lawful s p (Replies r) can o a = ((can.0, o.call ∙ can.1, can.2), o.decided r 0 0 can.3, (o.going (λ h. grind (arith, h, can.3))).0)
  calls_lawful s p Ends can o a = ((can.0, o.call ∙ can.1, can.2), (o.going (λ h. grind (arith, h, can.3))).1)
  calls_lawful s p l can o a = tt
