-- What a walk read last, and from which read a conditional removal began.
use Rattle.std.specs.Prelude.{ℕ, ◌≤◌, ◌==◌, Bool, true, false, cond, ◌∷◌, Option, Some, None, if◌then◌else◌, option_map, ◌≡◌, ◌⊎◌}
use Rattle.std.specs.declared.cmp.Ordering.{Ordering}
use Rattle.std.proofs.Common.{arith, refl, sym, ◌∙◌, ap, subst, inl, inr}
use Rattle.std.proofs.lemmas.Bool.{eqb-true}
use Rattle.flurry_steps_theory.specs.Trace.{begins, last_read, read_before}
use Rattle.flurry_steps_theory.specs.Machine.{State, Transition, Enabled, next_state, label, update, Begins, Reads}
use Rattle.flurry_steps_theory.specs.Invariant.{IsParty, Origins, pair_seen}
use Rattle.flurry_steps_theory.proofs.Tables.{same_some}
use Rattle.flurry_steps_theory.proofs.Ranges.{place_other}
use Rattle.flurry_base.specs.declared.call.Seen.{Seen}
use Rattle.flurry_base.specs.declared.call.Call.{Call}
use Rattle.flurry_base.specs.declared.call.Call.TheVariants.{RemoveSeen}
use Rattle.flurry_base.specs.declared.verdict.Verdict.{Verdict}

module _ {K V F : Type 0} (cmp : K → K → Ordering) (hash : K → ℕ) (gives : F → K → Option V → Verdict V → Type 0) where
  pub same_seen : {z y : Seen K V} → ◌≡◌ {A = Call K V F} (RemoveSeen z) (RemoveSeen y) → z ≡ y
  same_seen {z} h = ap (λ (c : Call K V F). seen_of c) h
    where
      seen_of : Call K V F → Seen K V
      seen_of (RemoveSeen u) = u
      seen_of c = z

  begins_after : (s : State K V F) (p : ℕ) (c : Call K V F) (y : Option ℕ) → Enabled cmp hash gives s p (Begins c y) → (q w : ℕ) (z : Seen K V) → update s.began_from p y q ≡ Some w → update s.call p (Some c) q ≡ Some (RemoveSeen z)
      → ((s.began_from q ≡ Some w) × (s.call q ≡ Some (RemoveSeen z)) × ((p == q) ≡ false)) ⊎ (((p == q) ≡ true) × (s.seen w ≡ Some z))
  begins_after s p c y can q w z h g = go (p == q) refl h g
    where
      go : (b : Bool) → (p == q) ≡ b → cond b y (s.began_from q) ≡ Some w → cond b (Some c) (s.call q) ≡ Some (RemoveSeen z) → ((s.began_from q ≡ Some w) × (s.call q ≡ Some (RemoveSeen z)) × ((p == q) ≡ false)) ⊎ (((p == q) ≡ true) × (s.seen w ≡ Some z))
      go true e h g = inr (e, (can.1 w h).1 ∙ ap Some (same_seen (sym (can.1 w h).2 ∙ same_some g)))
      go false e h g = inl (h, g, e)

  begins_origin : (s : State K V F) (p : ℕ) (c : Call K V F) (y : Option ℕ) → Enabled cmp hash gives s p (Begins c y) → ((q w : ℕ) → s.began_from q ≡ Some w → (z : Seen K V) × (s.call q ≡ Some (RemoveSeen z))) → (q w : ℕ) → update s.began_from p y q ≡ Some w → (z : Seen K V) × (update s.call p (Some c) q ≡ Some (RemoveSeen z))
  begins_origin s p c y can old q w h = go (p == q) h
    where
      go : (b : Bool) → cond b y (s.began_from q) ≡ Some w → (z : Seen K V) × (cond b (Some c) (s.call q) ≡ Some (RemoveSeen z))
      go true h = ((can.1 w h).0, ap Some (can.1 w h).2)
      go false h = old q w h

  pub begun_after : (s : State K V F) (p : ℕ) (l : Transition K V F) → Enabled cmp hash gives s p l → (q w : ℕ) (z : Seen K V) → (next_state cmp hash gives s p l).began_from q ≡ Some w → (next_state cmp hash gives s p l).call q ≡ Some (RemoveSeen z)
      → ((s.began_from q ≡ Some w) × (s.call q ≡ Some (RemoveSeen z)) × (begins q (label cmp hash gives p l) ≡ false)) ⊎ ((begins q (label cmp hash gives p l) ≡ true) × (s.seen w ≡ Some z))
  begun_after s p (Begins c y) can q w z h g = begins_after s p c y can q w z h g
  begun_after s p l can q w z h g = inl (h, g, refl)

  origin_after : (s : State K V F) (p : ℕ) (l : Transition K V F) → Enabled cmp hash gives s p l → ((q w : ℕ) → s.began_from q ≡ Some w → (z : Seen K V) × (s.call q ≡ Some (RemoveSeen z))) → (q w : ℕ) → (next_state cmp hash gives s p l).began_from q ≡ Some w → (z : Seen K V) × ((next_state cmp hash gives s p l).call q ≡ Some (RemoveSeen z))
  origin_after s p (Begins c y) can old q w h = begins_origin s p c y can old q w h
  origin_after s p l can old q w h = old q w h

  unread_after : (s : State K V F) (p : ℕ) (l : Transition K V F) → Enabled cmp hash gives s p l → IsParty s p → Origins s → (w : ℕ) → (next_state cmp hash gives s p l).parties ≤ w → (next_state cmp hash gives s p l).seen w ≡ None
  unread_after s p (Begins c y) can o v w h = grind (arith, h, can.0, v.unread w, eqb-true)
  unread_after s p (Reads e i f fs es n x) can o v w h = place_other s.seen p w _ (λ e. grind (arith, can.0, (o.beyond (subst (λ q. s.parties ≤ q) e h)).1)) ∙ v.unread w h
  unread_after s p l can o v w h = v.unread w h

  last_after : (s : State K V F) (p : ℕ) (l : Transition K V F) → Enabled cmp hash gives s p l → Origins s → (w : ℕ) → last_read (label cmp hash gives p l ∷ s.trace) w ≡ option_map pair_seen ((next_state cmp hash gives s p l).seen w)
  last_after s p (Begins c y) can v w = grind (arith, can.0, v.last w, v.unread w, eqb-true p w)
  last_after s p (Reads e i f fs es n x) can v w = grind (arith, v.last w)
  last_after s p l can v w = v.last w

  pub origins_ok : (s : State K V F) (p : ℕ) (l : Transition K V F) → Enabled cmp hash gives s p l → IsParty s p → Origins s → Origins (next_state cmp hash gives s p l)
  origins_ok s p l can o v = record {
    unread = unread_after s p l can o v;
    last = last_after s p l can v;
    origin = origin_after s p l can v.origin;
    before = λ q w z h g. go q w z (begun_after s p l can q w z h g);
  }
    where
      go : (q w : ℕ) (z : Seen K V) → ((s.began_from q ≡ Some w) × (s.call q ≡ Some (RemoveSeen z)) × (begins q (label cmp hash gives p l) ≡ false)) ⊎ ((begins q (label cmp hash gives p l) ≡ true) × (s.seen w ≡ Some z))
          → (if begins q (label cmp hash gives p l) then last_read s.trace w else read_before s.trace q w) ≡ Some (pair_seen z)
      go q w z (inl h) = rw h.2 (v.before q w z h.0 h.1)
      go q w z (inr h) = rw h.0 (v.last w ∙ ap (option_map pair_seen) h.1)
