-- Where memory may be refused.
use Rattle.std.specs.Prelude.{ℕ, ◌%◌, ◌^◌, true, Option, Some, None, ◌≡◌}
use Rattle.std.specs.declared.cmp.Ordering.{Ordering}
use Rattle.std.specs.Cmp.{IsTotalOrder}
use Rattle.std.proofs.Common.{arith, refl, sym, ◌∙◌, subst}
use Rattle.flurry_steps_theory.specs.Map.{Pairs, same, find, CanBeRefused}
use Rattle.flurry_steps_theory.specs.Trace.{pairs}
use Rattle.flurry_steps_theory.specs.Bin.{pairs_of}
use Rattle.flurry_steps_theory.specs.Machine.{State, Enabled, RefusedAt, MayOpen, Mode, Locating, Looking, Walking, Clearing, Done, Finished, IsRefused}
use Rattle.flurry_steps_theory.specs.Invariant.{IsParty, Tables}
use Rattle.flurry_steps_theory.proofs.Bins.{CanBeRefused-same}
use Rattle.flurry_steps_theory.proofs.Tables.{same_some}
use Rattle.flurry_steps_theory.proofs.Walks.{bin_content}
use Rattle.flurry_base.specs.declared.call.Call.{Call}
use Rattle.flurry_base.specs.declared.call.Call.TheVariants.{Insert, TryInsert, Alter, Reserve}
use Rattle.flurry_base.specs.declared.reply.KeptReply.{KeptReply}
use Rattle.flurry_base.specs.declared.verdict.Verdict.{Verdict}

module _ {K V F : Type 0} (cmp : K → K → Ordering) (hash : K → ℕ) (gives : F → K → Option V → Verdict V → Type 0) where
  -- a party that is refused is neither finished nor decided
  at_work : (s : State K V F) (c : Call K V F) (m : Mode K V) → RefusedAt cmp hash gives s c m → (m ≡ Finished → ⊥) × ((r : KeptReply K V) (a b : ℕ) → m ≡ Done (Some r) a b → ⊥)
  at_work s c (Clearing wiped d i fs) h = absurd h
  at_work s c (Done (Some r) x y) h = absurd h
  at_work s c Finished h = absurd h
  at_work s c m h = (λ e. grind (arith, e), λ r a b e. grind (arith, e))

  pub refused_at_work : (s : State K V F) (p : ℕ) → Enabled cmp hash gives s p IsRefused → (s.mode p ≡ Finished → ⊥) × ((r : KeptReply K V) (a b : ℕ) → s.mode p ≡ Done (Some r) a b → ⊥)
  refused_at_work s p can = at_work s can.0 (s.mode p) can.3

  -- a call that may open the first table may be refused where the map is empty
  opening_refused : (c : Call K V F) (m : Pairs K V) (e : ℕ) → ((k : K) → find cmp m k ≡ None) → MayOpen c e → CanBeRefused cmp gives c m
  opening_refused (Insert k v) m e z h = tt
  opening_refused (TryInsert k v) m e z h = tt
  opening_refused (Alter k true f) m e z h = rw (z k) refl
  opening_refused (Reserve n) m e z h = tt
  opening_refused c m e z h = absurd h

module _ {K V F : Type 0} (cmp : K → K → Ordering) (total : IsTotalOrder cmp) (hash : K → ℕ) (lawful : (j k : K) → same cmp j k ≡ true → hash j ≡ hash k) (gives : F → K → Option V → Verdict V → Type 0) where
  at_bin_refused : (home : ℕ → ℕ) (s : State K V F) (p e : ℕ) (c : Call K V F) → Tables cmp hash home s → RefusedAt cmp hash gives s c (Looking e) → CanBeRefused cmp gives c (pairs cmp hash s.trace)
  at_bin_refused home s p e c t h = CanBeRefused-same cmp total gives c (pairs_of h.1) (pairs cmp hash s.trace) h.0 h.3 (bin_content cmp total hash lawful gives home s e (hash h.0 % 2 ^ e) h.1 h.2 h.0 t h.4 refl) h.5

  -- what is refused is what the map lets be refused
  pub refused_now : (home : ℕ → ℕ) (s : State K V F) (p : ℕ) → Enabled cmp hash gives s p IsRefused → IsParty s p → Tables cmp hash home s → (c : Call K V F) × (s.call p ≡ Some c) × CanBeRefused cmp gives c (pairs cmp hash s.trace)
  refused_now home s p can o t = (can.0, can.1, go (s.mode p) refl can.3)
    where
      go : (m : Mode K V) → s.mode p ≡ m → RefusedAt cmp hash gives s can.0 m → CanBeRefused cmp gives can.0 (pairs cmp hash s.trace)
      go Locating e h = opening_refused cmp hash gives can.0 (pairs cmp hash s.trace) h.1 (t.empty h.0) h.2
      go (Looking d) e h = at_bin_refused home s p d can.0 t h
      go (Walking d i fs) e h = subst (λ c. CanBeRefused cmp gives c (pairs cmp hash s.trace)) (same_some (sym (o.walking d i fs e) ∙ can.1)) tt
      go (Clearing wiped d i fs) e h = absurd h
      go (Done None x y) e h = subst (λ c. CanBeRefused cmp gives c (pairs cmp hash s.trace)) (sym h.2) tt
      go (Done (Some r) x y) e h = absurd h
      go Finished e h = absurd h
