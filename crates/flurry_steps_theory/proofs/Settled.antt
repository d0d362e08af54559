-- What is true of a party stays true once what it owes is counted.
use Rattle.std.specs.Prelude.{ℕ, Bool, Option}
use Rattle.std.specs.declared.cmp.Ordering.{Ordering}
use Rattle.std.proofs.Common.{arith}
use Rattle.std.proofs.lemmas.Grind.{common_steps}
use Rattle.flurry_steps_theory.specs.Trace.{Trace}
use Rattle.flurry_steps_theory.specs.Machine.{State, settle, mode_after_count, Mode, Locating, Clearing, Done}
use Rattle.flurry_steps_theory.specs.Invariant.{IsParty, Progress, NamesNoUnborn, Waits}
use Rattle.flurry_base.specs.declared.call.Call.{Call}
use Rattle.flurry_base.specs.declared.verdict.Verdict.{Verdict}

module _ {K V F : Type 0} where
  pub party_settled : (whose : ℕ → Bool) (s : State K V F) (q : ℕ) → IsParty s q → IsParty (settle whose s) q
  party_settled whose s q h = record {
    call = h.call;
    beyond = grind (arith, common_steps, h.beyond);
    going = grind (arith, common_steps, h.going);
    no_decision = grind (arith, common_steps, h.no_decision);
    decided = grind (arith, common_steps, h.decided);
    looking = grind (arith, common_steps, h.looking);
    walking = grind (arith, common_steps, h.walking);
    end_label = grind (arith, common_steps, h.end_label);
    reply_decision = h.reply_decision;
    refused = h.refused;
    clearing = grind (arith, common_steps, h.clearing);
  }

  pub waits_settled : (call : Option (Call K V F)) (steps : ℕ) (m : Mode K V) → Waits call m steps → Waits call (mode_after_count m) steps
  waits_settled call steps (Clearing wiped e i fs) w = λ h. (λ m. absurd (grind (arith, m)), λ e m. absurd (grind (arith, m)), λ a b m. grind (arith, m))
  waits_settled call steps (Done r x y) w = λ h. (λ m. absurd (grind (arith, m)), λ e m. absurd (grind (arith, m)), λ a b m. grind (arith, m, (w h).2 x y))
  waits_settled call steps m w = w

module _ {K V F : Type 0} (hash : K → ℕ) where
  pub named_settled : (made : Bool) (home : ℕ → ℕ) (start : ℕ) (call : Option (Call K V F)) (m : Mode K V) → NamesNoUnborn hash made home start call m → NamesNoUnborn hash made home start call (mode_after_count m)
  named_settled made home start call Locating n = n
  named_settled made home start call m n = n

module _ {K V F : Type 0} (cmp : K → K → Ordering) (hash : K → ℕ) (gives : F → K → Option V → Verdict V → Type 0) where
  pub progress_settled : (call : Option (Call K V F)) (t : Trace K V F) (p : ℕ) (m : Mode K V) → Progress cmp hash gives call m t p → Progress cmp hash gives call (mode_after_count m) t p
  progress_settled call t p (Clearing wiped e i fs) g = record { unbegun = g.unbegun; seen = λ c _. g.seen c (λ h. grind (arith, h)); unread = λ c _. g.unread c (λ h. grind (arith, h)); cleared = λ c _. g.cleared c (λ h. grind (arith, h)); frames = g.frames }
  progress_settled call t p (Done r x y) g = record { unbegun = g.unbegun; seen = λ c _. g.seen c (λ h. grind (arith, h)); unread = λ c _. g.unread c (λ h. grind (arith, h)); cleared = λ c _. g.cleared c (λ h. grind (arith, h)); frames = tt }
  progress_settled call t p m g = g
