-- Where the live bin of a hash is, and what stands above it.
use Rattle.std.specs.Prelude.{ℕ, suc, ◌+◌, ◌^◌, ◌%◌, ◌≤◌, ◌<◌, ◌==◌, ◌&&◌, Bool, true, false, IsSome, is_some, if◌then◌else◌, ◌≡◌}
use Rattle.std.specs.declared.cmp.Ordering.{Ordering}
use Rattle.std.proofs.Common.{arith, refl, sym, ◌∙◌, ap, subst}
use Rattle.std.proofs.lemmas.Bool.{eqb-true, eqb-false, cases_lt}
use Rattle.flurry_bins_slots.specs.Slot.{SlotState, Content, IsLive, HasMoved, IsUnborn}
use Rattle.flurry_steps_theory.specs.Machine.{State, Unborn}
use Rattle.flurry_steps_theory.specs.Invariant.{Tables as TablesOk, is_live}
use Rattle.flurry_steps_theory.proofs.Bins.{small_mod, high_mod, double}
use Rattle.flurry_steps_world.specs.Entries.{slot_of}
use Rattle.flurry_steps_world.specs.Tables.{Tables, place_at, content_at, put_place}
use Rattle.flurry_steps_world.proofs.TableLaws.{content_at-put, content_at-put_other}

module _ {K V F : Type 0} (cmp : K → K → Ordering) (hash : K → ℕ) where
  -- the table in which a hash's bin is live is its home
  pub at_home : (home : ℕ → ℕ) (s : State K V F) (h e : ℕ) → TablesOk cmp hash home s → is_some s.published ≡ true → s.start ≤ e → is_live (s.slot e (h % 2 ^ e)) ≡ true → home h ≡ e
  at_home home s h e t made from live = grind (arith, live, t.below made h e from, t.above made h e, cases_lt (home h) e, cases_lt e (home h))

  -- the halves of a live bin are not born yet
  pub low_unborn : (home : ℕ → ℕ) (s : State K V F) (e i : ℕ) → TablesOk cmp hash home s → is_some s.published ≡ true → s.start ≤ e → i < 2 ^ e → is_live (s.slot e i) ≡ true → s.slot (suc e) i ≡ Unborn
  low_unborn home s e i t made from below live =
      let here : i % 2 ^ e ≡ i = small_mod e i below in
      let own : home i ≡ e = at_home home s i e t made from (ap (λ n. is_live (s.slot e n)) here ∙ live) in
      let there : i % 2 ^ suc e ≡ i = small_mod (suc e) i (omega (arith, below, double e)) in
      ap (s.slot (suc e)) (sym there) ∙ t.above made i (suc e) (omega (arith, own))

  pub high_unborn : (home : ℕ → ℕ) (s : State K V F) (e i : ℕ) → TablesOk cmp hash home s → is_some s.published ≡ true → s.start ≤ e → i < 2 ^ e → is_live (s.slot e i) ≡ true → s.slot (suc e) (i + 2 ^ e) ≡ Unborn
  high_unborn home s e i t made from below live =
      let here : (i + 2 ^ e) % 2 ^ e ≡ i = high_mod e i below in
      let own : home (i + 2 ^ e) ≡ e = at_home home s (i + 2 ^ e) e t made from (ap (λ n. is_live (s.slot e n)) here ∙ live) in
      let there : (i + 2 ^ e) % 2 ^ suc e ≡ i + 2 ^ e = small_mod (suc e) (i + 2 ^ e) (omega (arith, below, double e)) in
      ap (s.slot (suc e)) (sym there) ∙ t.above made (i + 2 ^ e) (suc e) (omega (arith, own))

module _ {K V : Type 0} where
  -- what a slot's content tells of it
  pub unborn_content : (c : Content K V) → slot_of c ≡ Unborn → c ≡ IsUnborn
  unborn_content (IsLive b) h = cc
  unborn_content HasMoved h = cc
  unborn_content IsUnborn h = refl

  -- the tables with a slot put
  pub put_content : (t : Tables K V) (e i : ℕ) (q : SlotState K V) → IsSome (place_at t e i) → (d j : ℕ) → content_at (put_place t e i q) d j ≡ (if e == d && i == j then q.content else content_at t d j)
  put_content t e i q some d j = by_place (e == d) (i == j) refl refl
    where
      by_place : (a b : Bool) → (e == d) ≡ a → (i == j) ≡ b → content_at (put_place t e i q) d j ≡ (if a && b then q.content else content_at t d j)
      by_place true true g h = subst (λ n. content_at (put_place t e i q) n j ≡ q.content) (eqb-true e d g) (subst (λ n. content_at (put_place t e i q) e n ≡ q.content) (eqb-true i j h) (content_at-put t e i q some))
      by_place true false g h = content_at-put_other t e i q d j (λ x y. eqb-false i j h (sym y))
      by_place false b g h = content_at-put_other t e i q d j (λ x y. eqb-false e d g (sym x))
