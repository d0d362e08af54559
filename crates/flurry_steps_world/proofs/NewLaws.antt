-- A new world is one.
use Rattle.std.specs.Prelude.{ℕ, zero, suc, pos, ◌+◌, ◌^◌, ◌≤◌, ◌==◌, ◌&&◌, nat_lt, Bool, true, false, List, [], replicate, get_or, slice_get, Option, Some, None, MatchOption, Result, Ok, MatchResult, if◌then◌else◌, ◌≡◌}
use Rattle.std.specs.declared.cmp.Ordering.{Ordering}
use Rattle.std.specs.Cmp.{IsTotalOrder}
use Rattle.std.specs.Option.{option_map_or}
use Rattle.std.proofs.Common.{arith, refl, sym, ◌∙◌, ap, subst}
use Rattle.flurry_bins_slots.specs.Slot as slots
use Rattle.flurry_bins_slots.specs.Slot.{SlotState, IsLive, IsUnborn}
use Rattle.std.specs.declared.alloc.AllocError.{AllocError}
use Rattle.std.proofs.lemmas.List.{set-get_or}
use Rattle.flurry_steps_claims.specs.PlainBoard.{PlainBoardState}
use Rattle.flurry_steps_control.specs.Control.{ControlState, OpenGives, after_open}
use Rattle.flurry_steps_theory.specs.Map.{same}
use Rattle.flurry_steps_theory.specs.Machine.{Live, Unborn}
use Rattle.flurry_steps_theory.specs.Invariant.{Inv, new_world}
use Rattle.flurry_steps_theory.proofs.Step.{inv_new}
use Rattle.flurry_steps_world.specs.Entries.{slot_of, IsHashed}
use Rattle.flurry_steps_world.specs.Tables.{Tables, AreTables, slots_of, content_at, is_made, no_tables, fresh, with_table, MadeGives, PlaceGives}
use Rattle.flurry_steps_world.specs.World.{state_of, mode_in, told_in, IsWorld}
use Rattle.flurry_steps_world.specs.Steps.{fresh_world}
use Rattle.flurry_steps_world.proofs.TableLaws.{AreTables-none, AreTables-made, content_at-made}
use Rattle.flurry_base.specs.declared.sizes.TheConstants.{MAX_TABLE, TABLES}
use Rattle.flurry_base.specs.declared.verdict.Verdict.{Verdict}

no_board : (n e : ℕ) → get_or (replicate {A = Option PlainBoardState} n None) e None ≡ None
no_board zero e = refl
no_board (suc n) zero = refl
no_board (suc n) (suc e) = no_board n e

module _ {K V : Type 0} where
  -- no table is in any place
  pub slots_of-none : (n e : ℕ) → get_or (replicate {A = List (SlotState K V)} n []) e [] ≡ []
  slots_of-none zero e = refl
  slots_of-none (suc n) zero = refl
  slots_of-none (suc n) (suc e) = slots_of-none n e

  -- the first table is opened
  pub opened_new : (e : ℕ) (b b' : ControlState) (t t' : Tables K V) (r : Result ℕ AllocError) (q : ℕ) → b ≡ record { published = None; growth = None; count = pos 0 } → t ≡ no_tables → OpenGives PlaceGives e b t r b' t' → r ≡ Ok q
      → (q ≡ e) × (b' ≡ record { published = Some q; growth = None; count = pos 0 }) × (t' ≡ with_table no_tables q None)
  opened_new e b b' t t' r q is none gave answer =
      let opens : MatchResult {E = AllocError} (Ok q) (λ z. (z ≡ e) × (b' ≡ after_open e b) × PlaceGives t e None true t') (λ _. (b' ≡ b) × PlaceGives t e None false t') =
      subst (λ z. MatchResult z (λ z. (z ≡ e) × (b' ≡ after_open e b) × PlaceGives t e None true t') (λ _. (b' ≡ b) × PlaceGives t e None false t')) answer
      (subst (λ o. MatchOption o (MatchResult r (λ z. (z ≡ e) × (b' ≡ after_open e b) × PlaceGives t e None true t') (λ _. (b' ≡ b) × PlaceGives t e None false t')) (λ z. (r ≡ Ok z) × (b' ≡ b) × (t' ≡ t))) (ap (λ z. z.published) is) gave) in
      let made : t' ≡ with_table t e None = subst (λ d. MadeGives d t e None true t') (ap (λ u. is_made (slots_of u e)) none ∙ ap is_made (slots_of-none TABLES e)) opens.2 in
      (opens.0, opens.1 ∙ ap (after_open e) is ∙ ap (λ n. record { published = Some n; growth = None; count = pos 0 }) (sym opens.0), made ∙ ap (λ u. with_table u e None) none ∙ ap (λ n. with_table no_tables n None) (sym opens.0))

  pub AreTables-no_tables : AreTables (no_tables {K = K} {V = V})
  AreTables-no_tables = AreTables-none no_tables refl (slots_of-none TABLES) refl (λ e. no_board TABLES (e + 1))

  nothing : (d j : ℕ) → content_at (no_tables {K = K} {V = V}) d j ≡ IsUnborn
  nothing d j = ap (λ s. option_map_or (λ (p : SlotState K V). p.content) (slice_get s j) IsUnborn) (slots_of-none TABLES d)

module _ {K V F S : Type 0} (cmp : K → K → Ordering) (total : IsTotalOrder cmp) (hash : K → ℕ) (lawful : (j k : K) → same cmp j k ≡ true → hash j ≡ hash k) (gives : F → K → Option V → Verdict V → Type 0) (hasher : S) (processors : ℕ) where
  -- without a table
  pub new_without : IsWorld cmp hash gives (fresh_world {K = K} {V = V} {F = F} hasher processors None no_tables)
  new_without = record {
    state = ((λ _. 0), subst (Inv cmp hash gives None (λ _. 0)) (sym is) (inv_new cmp total hash lawful gives 0 false (omega arith)));
    party_records = λ p x h. cc;
    hashed = λ e i b h. absurd (unborn (sym (nothing e i) ∙ h));
    control_state = record { published = tt; growth = tt };
    tables = AreTables-no_tables;
    no_table = λ _ e. slots_of-none TABLES e;
    next = λ e h. cc;
    running = λ e h. cc;
    over = λ e d h _. let no : None ≡ Some d = sym (no_board TABLES (e + 1)) ∙ h in cc;
  }
    where
      unborn : {b : slots.Live K V} → IsUnborn ≡ IsLive b → ⊥
      unborn h = cc

      is : state_of (fresh_world {K = K} {V = V} {F = F} hasher processors None no_tables) ≡ new_world 0 false
      is = λ i. record {
        start = 0;
        published = None;
        growth = None;
        slot = λ d j. ap slot_of (nothing d j) i;
        parties = 0;
        call = λ _. None;
        mode = λ p. mode_in {K = K} {V = V} {F = F} None;
        claim = λ _. None;
        told = λ p. told_in {K = K} {V = V} {F = F} None;
        count = pos 0;
        seen = λ _. None;
        began_from = λ _. None;
        steps = λ _. 0;
        trace = [];
      }

  -- with one table
  pub new_with : (e : ℕ) → e ≤ MAX_TABLE → IsWorld cmp hash gives (fresh_world {K = K} {V = V} {F = F} hasher processors (Some e) (with_table no_tables e None))
  new_with e le = record {
    state = ((λ _. e), subst (Inv cmp hash gives (Some e) (λ _. e)) (sym is) (inv_new cmp total hash lawful gives e true le));
    party_records = λ p x h. cc;
    hashed = λ d i b h. hashed_in b (e == d && nat_lt i (2 ^ e)) (sym (contents d i) ∙ h);
    control_state = record { published = le; growth = tt };
    tables = AreTables-made no_tables e None AreTables-no_tables le;
    no_table = λ h. cc;
    next = λ d h. cc;
    running = λ d h. cc;
    over = λ d b h _. let no : None ≡ Some b = sym (ap (λ bs. get_or bs (d + 1) None) (set-get_or (no_tables {K = K} {V = V}).boards e None) ∙ no_board TABLES (d + 1)) ∙ h in cc;
  }
    where
      contents : (d j : ℕ) → content_at (with_table (no_tables {K = K} {V = V}) e None) d j ≡ (if e == d && nat_lt j (2 ^ e) then fresh true else IsUnborn)
      contents d j = content_at-made no_tables e None AreTables-no_tables le d j ∙ ap (λ c. if e == d && nat_lt j (2 ^ e) then fresh true else c) (nothing d j)

      hashed_in : (b : slots.Live K V) (z : Bool) → (if z then fresh true else IsUnborn) ≡ IsLive b → IsHashed hash b.plain_entries
      hashed_in b true h = let one : record { plain_entries = []; tree = false; writes = 0 } ≡ b = cc in subst (λ l. IsHashed hash l.plain_entries) one tt
      hashed_in b false h = cc

      filled : (d j : ℕ) (z : Bool) → slot_of {K = K} {V = V} (if z then fresh true else IsUnborn) ≡ (if z then Live [] 0 else Unborn)
      filled d j true = refl
      filled d j false = refl

      is : state_of (fresh_world {K = K} {V = V} {F = F} hasher processors (Some e) (with_table no_tables e None)) ≡ new_world e true
      is = λ i. record {
        start = e;
        published = Some e;
        growth = None;
        slot = λ d j. (ap slot_of (contents d j) ∙ filled d j (e == d && nat_lt j (2 ^ e))) i;
        parties = 0;
        call = λ _. None;
        mode = λ p. mode_in {K = K} {V = V} {F = F} None;
        claim = λ _. None;
        told = λ p. told_in {K = K} {V = V} {F = F} None;
        count = pos 0;
        seen = λ _. None;
        began_from = λ _. None;
        steps = λ _. 0;
        trace = [];
      }
