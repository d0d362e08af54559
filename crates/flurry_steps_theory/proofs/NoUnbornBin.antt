-- No party names an unborn bin.
use Rattle.std.specs.Prelude.{length, ℕ, suc, ◌+◌, ◌%◌, ◌^◌, ◌≤◌, nat_lt, Bool, true, false, cond, List, [], ◌∷◌, Option, Some, None, is_some, ◌≡◌, ◌⊎◌}
use Rattle.std.specs.declared.cmp.Ordering.{Ordering}
use Rattle.std.specs.Cmp.{IsTotalOrder}
use Rattle.std.proofs.Common.{arith, refl, sym, ◌∙◌, ap, subst, inl, inr}
use Rattle.std.proofs.lemmas.Bool.{eqb-true, cases_eq, ltb-true}
use Rattle.std.proofs.lemmas.Nat.{pow_pos}
use Rattle.flurry_steps_theory.specs.Map.{same}
use Rattle.flurry_steps_theory.specs.Machine.{State, Transition, Enabled, next_state, found_by, onward, halves, Moved, Unborn, Mode, Looking, Walking, Clearing, Done, Frame, Quiet, Loses, Counts, Finds, Opens, Passes, Places, Claims, Moves, Reports, Publishes, Reads, Leaves, Splits, Wipes, SplitsClear}
use Rattle.flurry_steps_theory.specs.Invariant.{Tables, home_after, key_in, AreNotUnborn, NamesNoUnborn}
use Rattle.flurry_steps_theory.proofs.Bins.{in_low_half, in_high_half, double}
use Rattle.flurry_steps_theory.proofs.Tables.{same_some, homes}
use Rattle.flurry_base.specs.declared.call.Call.{Call}
use Rattle.flurry_base.specs.declared.call.Call.TheVariants.{Reserve, Clear, Walk}
use Rattle.flurry_base.specs.declared.verdict.Verdict.{Verdict}
use Rattle.flurry_steps_theory.proofs.Settled.{named_settled}
use Rattle.flurry_steps_theory.proofs.OwnSteps.{next_mode, next_call, other_keeps, if_settled, own_or_other}

module _ {K V F : Type 0} (cmp : K → K → Ordering) (total : IsTotalOrder cmp) (hash : K → ℕ) (lawful : (j k : K) → same cmp j k ≡ true → hash j ≡ hash k) (gives : F → K → Option V → Verdict V → Type 0) where
  -- homes only rise
  risen : (home : ℕ → ℕ) (s : State K V F) (p : ℕ) (l : Transition K V F) → Enabled cmp hash gives s p l → Tables cmp hash home s → is_some s.published ≡ true → (h : ℕ) → home h ≤ home_after home l h
  risen home s p (Opens e) can t md h = absurd (grind (arith, md, can.3))
  risen home s p (Moves a i es n) can t md h = grind (arith, eqb-true, homes cmp total hash lawful gives home s a.table i es n h t can.3)
  risen home s p l can t md h = omega arith

  same_start : (s : State K V F) (p : ℕ) (l : Transition K V F) → Enabled cmp hash gives s p l → is_some s.published ≡ true → ((next_state cmp hash gives s p l).start ≡ s.start) × (is_some (next_state cmp hash gives s p l).published ≡ true)
  same_start s p (Opens e) can md = absurd (grind (arith, md, can.3))
  same_start s p (Publishes e gr) can md = (refl, refl)
  same_start s p l can md = (refl, md)

  born_on : (home home' : ℕ → ℕ) (start : ℕ) (fs : List (Frame K)) → ((h : ℕ) → home h ≤ home' h) → AreNotUnborn home start fs → AreNotUnborn home' start fs
  born_on home home' start [] r b = tt
  born_on home home' start (f ∷ fs) r b = ((b.0.0, b.0.1, λ h g. omega (arith, r h, b.0.2 h g)), born_on home home' start fs r b.1)

  -- a party that does no step
  stays_named : (home : ℕ → ℕ) (s : State K V F) (p : ℕ) (l : Transition K V F) → Enabled cmp hash gives s p l → Tables cmp hash home s → (call : Option (Call K V F)) (m : Mode K V) → NamesNoUnborn hash (is_some s.published) home s.start call m
      → NamesNoUnborn hash (is_some (next_state cmp hash gives s p l).published) (home_after home l) (next_state cmp hash gives s p l).start call m
  stays_named home s p l can t call (Looking e) n = ((same_start s p l can n.0).1, omega (arith, n.1, (same_start s p l can n.0).0), λ k h. omega (arith, n.2 k h, risen home s p l can t n.0 (hash k)))
  stays_named home s p l can t call (Walking e i fs) n = ((same_start s p l can n.0).1, omega (arith, n.1, (same_start s p l can n.0).0), (λ h. omega (arith, n.2 h, risen home s p l can t n.0 h)), rw (same_start s p l can n.0).0 (born_on home (home_after home l) s.start fs (risen home s p l can t n.0) n.3))
  stays_named home s p l can t call (Clearing wiped e i fs) n = ((same_start s p l can n.0).1, omega (arith, n.1, (same_start s p l can n.0).0), (λ h. omega (arith, n.2 h, risen home s p l can t n.0 h)), rw (same_start s p l can n.0).0 (born_on home (home_after home l) s.start fs (risen home s p l can t n.0) n.3))
  stays_named home s p l can t call m n = tt

  -- a table that is found
  finds_named : (home : ℕ → ℕ) (start e : ℕ) (call : Option (Call K V F)) → start ≤ e → ((h : ℕ) → e ≤ home h) → NamesNoUnborn hash true home start call (found_by cmp hash gives call e)
  finds_named home start e None a b = tt
  finds_named home start e (Some (Reserve n)) a b = tt
  finds_named home start e (Some Clear) a b = (refl, a, b, ((a, pow_pos e, λ h _. b h), tt))
  finds_named home start e (Some Walk) a b = (refl, a, b, ((a, pow_pos e, λ h _. b h), tt))
  finds_named home start e call a b = (refl, a, λ k _. b (hash k))

  -- behind a frame that is done, with the modes of a walk or of a clear
  onward_named : (to : ℕ → ℕ → List (Frame K) → Mode K V) (end : Mode K V) (made : Bool) (home : ℕ → ℕ) (start e i : ℕ) (fs : List (Frame K)) (call : Option (Call K V F))
      → ((j : ℕ) (gs : List (Frame K)) → (made ≡ true) × (start ≤ e) × ((h : ℕ) → e ≤ home h) × AreNotUnborn home start gs → NamesNoUnborn hash made home start call (to e j gs)) → NamesNoUnborn hash made home start call end
      → (made ≡ true) × (start ≤ e) × ((h : ℕ) → e ≤ home h) → AreNotUnborn home start fs → NamesNoUnborn hash made home start call (onward to end e i fs)
  onward_named to end made home start e i (f ∷ fs) call is over n b = is i (f ∷ fs) (n.0, n.1, n.2, b)
  onward_named to end made home start e i [] call is over n b = go (nat_lt (suc i) (2 ^ e)) refl
    where
      go : (u : Bool) → nat_lt (suc i) (2 ^ e) ≡ u → NamesNoUnborn hash made home start call (cond u (to e (suc i) (record { table = e; index = suc i; bound = None } ∷ [])) end)
      go true x = is (suc i) (record { table = e; index = suc i; bound = None } ∷ []) (n.0, n.1, n.2, ((n.1, ltb-true _ _ x, λ h _. n.2 h), tt))
      go false x = over

  -- below the home of a hash a bin has moved on, or it is the home
  pub above_moved : (home : ℕ → ℕ) (s : State K V F) (h d : ℕ) → Tables cmp hash home s → is_some s.published ≡ true → s.slot d (h % 2 ^ d) ≡ Moved → d ≤ home h → suc d ≤ home h
  above_moved home s h d t m q l = go (cases_eq d (home h))
    where
      go : (d ≡ home h) ⊎ (d ≡ home h → ⊥) → suc d ≤ home h
      go (inl e) = grind (arith, e, q, t.live m h)
      go (inr e) = omega (arith, e, l)

  split_born : (home : ℕ → ℕ) (s : State K V F) (f : Frame K) (fs : List (Frame K)) → Tables cmp hash home s → is_some s.published ≡ true → s.slot f.table f.index ≡ Moved → AreNotUnborn home s.start (f ∷ fs) → AreNotUnborn home s.start (halves f fs)
  split_born home s f fs t m q b =
      let up : (h : ℕ) → h % 2 ^ f.table ≡ f.index → suc f.table ≤ home h = λ h g. above_moved home s h f.table t m (grind (arith, q, g)) (b.0.2 h g) in (
        (omega (arith, b.0.0), omega (arith, b.0.1, double f.table), λ h g. up h (in_low_half h f.table f.index b.0.1 g)),
        ((omega (arith, b.0.0), omega (arith, b.0.1, double f.table), λ h g. up h (in_high_half h f.table f.index b.0.1 g)), b.1),
      )

  own_named : (home : ℕ → ℕ) (s : State K V F) (p : ℕ) (l : Transition K V F) → Enabled cmp hash gives s p l → Tables cmp hash home s → NamesNoUnborn hash (is_some s.published) home s.start (s.call p) (s.mode p)
      → NamesNoUnborn hash (is_some (next_state cmp hash gives s p l).published) (home_after home l) (next_state cmp hash gives s p l).start (next_call cmp total hash lawful gives s p l) (next_mode cmp total hash lawful gives s p l)
  unfolding next_mode next_call
  own_named home s p Quiet can t nm = stays_named home s p Quiet can t (s.call p) (s.mode p) nm
  own_named home s p Loses can t nm = stays_named home s p Loses can t (s.call p) (s.mode p) nm
  own_named home s p (Counts whose) can t nm = if_settled (NamesNoUnborn hash (is_some s.published) home s.start (s.call p)) (named_settled hash (is_some s.published) home s.start (s.call p)) (whose p) (s.mode p) nm
  own_named home s p (Finds e) can t nm = subst (λ b. NamesNoUnborn hash (is_some b) home s.start (s.call p) (found_by cmp hash gives (s.call p) e)) (sym can.3.2) (finds_named home s.start e (s.call p) can.3.0 (λ h. omega (arith, can.3.3, (t.from can.3.1 can.3.2).1 h)))
  own_named home s p (Opens e) can t nm = finds_named (λ _. e) e e (s.call p) (omega arith) (λ _. omega arith)
  own_named home s p (Passes e) can t nm = let q : NamesNoUnborn hash (is_some s.published) home s.start (s.call p) (Looking e) = (subst (λ m. NamesNoUnborn hash (is_some s.published) home s.start (s.call p) m) can.4 nm) in (q.0, omega (arith, q.1), λ k h. above_moved home s (hash k) e t q.0 (subst (λ k. s.slot e (hash k % 2 ^ e) ≡ Moved) (same_some (sym can.3 ∙ ap key_in (sym can.2) ∙ h)) can.5) (q.2 k h))
  own_named home s p (Places e) can t nm = stays_named home s p (Places e) can t (s.call p) (s.mode p) nm
  own_named home s p (Claims e gr low) can t nm = stays_named home s p (Claims e gr low) can t (s.call p) (s.mode p) nm
  own_named home s p (Moves a i es n) can t nm = stays_named home s p (Moves a i es n) can t (s.call p) (s.mode p) nm
  own_named home s p (Reports a gr) can t nm = stays_named home s p (Reports a gr) can t (s.call p) (s.mode p) nm
  own_named home s p (Publishes e gr) can t nm = stays_named home s p (Publishes e gr) can t (s.call p) (s.mode p) nm
  own_named home s p (Reads e i f fs es n x) can t nm = let q : NamesNoUnborn hash (is_some s.published) home s.start (s.call p) (Walking e i (f ∷ fs)) = (subst (λ m. NamesNoUnborn hash (is_some s.published) home s.start (s.call p) m) can.0 nm) in (q.0, q.1, q.2, q.3)
  own_named home s p (Leaves e i f fs es n) can t nm = let q : NamesNoUnborn hash (is_some s.published) home s.start (s.call p) (Walking e i (f ∷ fs)) = (subst (λ m. NamesNoUnborn hash (is_some s.published) home s.start (s.call p) m) can.0 nm) in onward_named Walking (Done None 0 0) (is_some s.published) home s.start e i fs (s.call p) (λ _ _ n. n) tt (q.0, q.1, q.2) q.3.1
  own_named home s p (Splits e i f fs) can t nm = let q : NamesNoUnborn hash (is_some s.published) home s.start (s.call p) (Walking e i (f ∷ fs)) = (subst (λ m. NamesNoUnborn hash (is_some s.published) home s.start (s.call p) m) can.0 nm) in (q.0, q.1, q.2, split_born home s f fs t q.0 can.1 q.3)
  own_named home s p (Wipes wiped e i f fs es n) can t nm = let q : NamesNoUnborn hash (is_some s.published) home s.start (s.call p) (Clearing wiped e i (f ∷ fs)) = (subst (λ m. NamesNoUnborn hash (is_some s.published) home s.start (s.call p) m) can.0 nm) in onward_named (Clearing (wiped + length es)) (Done None 0 (wiped + length es)) (is_some s.published) home s.start e i fs (s.call p) (λ _ _ n. n) tt (q.0, q.1, q.2) q.3.1
  own_named home s p (SplitsClear wiped e i f fs) can t nm = let q : NamesNoUnborn hash (is_some s.published) home s.start (s.call p) (Clearing wiped e i (f ∷ fs)) = (subst (λ m. NamesNoUnborn hash (is_some s.published) home s.start (s.call p) m) can.0 nm) in (q.0, q.1, q.2, split_born home s f fs t q.0 can.1 q.3)
  own_named home s p l can t nm = tt

  pub named_ok : (home : ℕ → ℕ) (s : State K V F) (p q : ℕ) (l : Transition K V F) → Enabled cmp hash gives s p l → Tables cmp hash home s → ((q : ℕ) → NamesNoUnborn hash (is_some s.published) home s.start (s.call q) (s.mode q))
      → NamesNoUnborn hash (is_some (next_state cmp hash gives s p l).published) (home_after home l) (next_state cmp hash gives s p l).start ((next_state cmp hash gives s p l).call q) ((next_state cmp hash gives s p l).mode q)
  named_ok home s p q l can t n = own_or_other cmp total hash lawful gives (λ _ c m. Named c m) s p q l (own_named home s p l can t (n p))
      (λ ne. other_keeps cmp total hash lawful gives (Named (s.call q)) (named_settled hash (is_some (next_state cmp hash gives s p l).published) (home_after home l) (next_state cmp hash gives s p l).start (s.call q)) l q (s.mode q) (stays_named home s p l can t (s.call q) (s.mode q) (n q)))
    where
      Named : Option (Call K V F) → Mode K V → Type 0
      Named = NamesNoUnborn hash (is_some (next_state cmp hash gives s p l).published) (home_after home l) (next_state cmp hash gives s p l).start

  -- so the bin that a party looks at is there
  pub looks_at : (home : ℕ → ℕ) (s : State K V F) (p e : ℕ) (k : K) → Tables cmp hash home s → NamesNoUnborn hash (is_some s.published) home s.start (s.call p) (s.mode p) → s.mode p ≡ Looking e → key_in (s.call p) ≡ Some k → s.slot e (hash k % 2 ^ e) ≡ Unborn → ⊥
  looks_at home s p e k t n m h q =
      let w : NamesNoUnborn hash (is_some s.published) home s.start (s.call p) (Looking e) = subst (λ m. NamesNoUnborn hash (is_some s.published) home s.start (s.call p) m) m n in
      grind (arith, q, w.0, w.1, w.2 k h, t.live w.0 (hash k), t.below w.0 (hash k) e, cases_eq e (home (hash k)))
