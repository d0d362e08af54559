-- What a trace tells of one party that is alone.
use Rattle.std.specs.Prelude.{ℕ, ◌==◌, Bool, true, false, ◌||◌, ◌∷◌, Option, Some, None, if◌then◌else◌, ⊤, ◌≡◌}
use Rattle.std.specs.declared.cmp.Ordering.{Ordering}
use Rattle.std.proofs.Common.{refl, sym, ◌∙◌, ap, subst}
use Rattle.std.proofs.lemmas.Bool.{eq-eqb}
use Rattle.flurry_base.specs.declared.reply.KeptReply.{KeptReply}
use Rattle.flurry_steps_theory.specs.Map.{Pairs, after, Allows, CanBeRefused}
use Rattle.flurry_steps_theory.specs.Trace.{Trace, call_begun_by, decision, has_closed, has_replied, map_after_decision, pairs}
use Rattle.flurry_steps_theory.specs.Legal.{CallMay}
use Rattle.flurry_base.specs.declared.call.Call.{Call}
use Rattle.flurry_base.specs.declared.verdict.Verdict.{Verdict}
use Rattle.flurry_steps_theory.specs.declared.Label.{Label}
use Rattle.flurry_steps_theory.specs.declared.Label.TheVariants as label
use Rattle.flurry_steps_world.proofs.StateLaws.{same_some}

pub itself : (p : ℕ) → (p == p) ≡ true
itself p = eq-eqb p p refl

module _ {K V F : Type 0} where
  -- a label of a step of party p, which is alone and a call of one key or a reserve
  abbrev pub IsOwnLabel : ℕ → Label K V F → Type 0
  IsOwnLabel p (label.Decide q r) = q ≡ p
  IsOwnLabel p (label.Refused q) = q ≡ p
  IsOwnLabel p (label.Opened e) = ⊤
  IsOwnLabel p (label.Placed e) = ⊤
  IsOwnLabel p (label.Moved e i) = ⊤
  IsOwnLabel p (label.Published e) = ⊤
  IsOwnLabel p (label.Silent q) = ⊤
  IsOwnLabel p _ = ⊥

module _ {K V F : Type 0} (cmp : K → K → Ordering) (hash : K → ℕ) (gives : F → K → Option V → Verdict V → Type 0) (p : ℕ) (d : Call K V F) (m : Pairs K V) where
  -- by p's decision and whether it was refused: what the map is, which was m when p began
  abbrev pub ByEnd : Option (KeptReply K V) → Bool → Pairs K V → Type 0
  ByEnd None false n = n ≡ m
  ByEnd None true n = CanBeRefused cmp gives d m × (n ≡ m)
  ByEnd (Some r) b n = Allows cmp gives d m r × (n ≡ after cmp d r m)

  pub record Alone (t : Trace K V F) : Type 0 where
    pub began : call_begun_by t p ≡ Some d
    pub open_yet : has_replied t p ≡ false
    pub end : ByEnd (decision t p) (has_closed t p) (pairs cmp hash t)

  module _ (t : Trace K V F) (a : Alone t) where
    decides : (r : KeptReply K V) → CallMay cmp hash gives t (label.Decide p r) → Alone (label.Decide p r ∷ t)
    decides r ((c, is, allows), none, open_yet) =
        let same : d ≡ c = same_some (sym a.began ∙ is) in
        let before : pairs cmp hash t ≡ m = subst (λ b. ByEnd None b (pairs cmp hash t)) open_yet (subst (λ o. ByEnd o (has_closed t p) (pairs cmp hash t)) none a.end) in
        record {
          began = a.began;
          open_yet = a.open_yet;
          end = subst (λ b. ByEnd (if b then Some r else decision t p) (has_closed t p) (map_after_decision cmp hash (call_begun_by t p) r (pairs cmp hash t))) (sym (itself p))
              (subst (λ n. Allows cmp gives d n r) before (subst (λ z. Allows cmp gives z (pairs cmp hash t) r) (sym same) allows), ap (λ o. map_after_decision cmp hash o r (pairs cmp hash t)) a.began ∙ ap (after cmp d r) before);
        }

    refuses : CallMay cmp hash gives t (label.Refused p) → Alone (label.Refused p ∷ t)
    refuses ((c, is, may), none, open_yet) =
        let same : d ≡ c = same_some (sym a.began ∙ is) in
        let before : pairs cmp hash t ≡ m = subst (λ b. ByEnd None b (pairs cmp hash t)) open_yet (subst (λ o. ByEnd o (has_closed t p) (pairs cmp hash t)) none a.end) in
        record {
          began = a.began;
          open_yet = a.open_yet;
          end = subst (λ b. ByEnd (decision t p) (b || has_closed t p) (pairs cmp hash t)) (sym (itself p))
              (subst (λ o. ByEnd o true (pairs cmp hash t)) (sym none) (subst (λ n. CanBeRefused cmp gives d n) before (subst (λ z. CanBeRefused cmp gives z (pairs cmp hash t)) (sym same) may), before));
        }

    -- one label more
    pub alone_more : (l : Label K V F) → IsOwnLabel p l → CallMay cmp hash gives t l → Alone (l ∷ t)
    alone_more (label.Decide q r) o h = subst (λ z. Alone (label.Decide z r ∷ t)) (sym o) (decides r (subst (λ z. CallMay cmp hash gives t (label.Decide z r)) o h))
    alone_more (label.Refused q) o h = subst (λ z. Alone (label.Refused z ∷ t)) (sym o) (refuses (subst (λ z. CallMay cmp hash gives t (label.Refused z)) o h))
    alone_more (label.Opened e) o h = record { began = a.began; open_yet = a.open_yet; end = a.end }
    alone_more (label.Placed e) o h = record { began = a.began; open_yet = a.open_yet; end = a.end }
    alone_more (label.Moved e i) o h = record { began = a.began; open_yet = a.open_yet; end = a.end }
    alone_more (label.Published e) o h = record { began = a.began; open_yet = a.open_yet; end = a.end }
    alone_more (label.Silent q) o h = record { began = a.began; open_yet = a.open_yet; end = a.end }
    alone_more l o h = absurd o

  -- p began
  pub alone_began : (t : Trace K V F) → has_replied t p ≡ false → decision t p ≡ None → has_closed t p ≡ false → pairs cmp hash t ≡ m → Alone (label.Begin p d ∷ t)
  alone_began t no_reply no_decision going is = record {
    began = ap (λ b. if b then Some d else call_begun_by t p) (itself p);
    open_yet = no_reply;
    end = subst (λ o. ByEnd o (has_closed t p) (pairs cmp hash t)) (sym no_decision) (subst (λ b. ByEnd None b (pairs cmp hash t)) (sym going) is);
  }
