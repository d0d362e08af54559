-- Which bins are live, and that they hold the map.
use Rattle.std.specs.Prelude.{unwrap_or, if◌then◌else◌, nat_lt, ℕ, suc, ◌+◌, ◌%◌, ◌^◌, ◌<◌, ◌≤◌, ◌==◌, Bool, true, false, cond, ◌&&◌, List, [], ◌∷◌, Option, Some, None, is_some, ◌≡◌}
use Rattle.std.specs.declared.cmp.Ordering.{Ordering}
use Rattle.std.specs.Cmp.{IsTotalOrder}
use Rattle.std.proofs.Common.{arith, refl, sym, ◌∙◌, ap, subst}
use Rattle.std.proofs.lemmas.Bool.{eqb-true, eqb-false, eq-eqb, ne_eqb, cases_order, cond-true, cond-false, false_from_ne_true, and_parts, or_cases, and_from, and_cases, lt-ltb, ltb-true}
use Rattle.std.proofs.lemmas.Nat.{mod_below, pow_pos}
use Rattle.flurry_base.specs.OneKey.{key_of}
use Rattle.flurry_steps_theory.specs.Map.{same, find, after, Allows}
use Rattle.flurry_steps_theory.specs.Trace.{map_after_decision, in_region, was_moved_in, pairs, at}
use Rattle.flurry_steps_theory.specs.Bin.{Entry, pairs_of, IsAscending, InRegion, half}
use Rattle.flurry_steps_theory.specs.Machine.{State, Slot, Claim, Transition, Adds, Enabled, next_state, update2, Live, Moved, Unborn, Frame, Opens, DecidesEmpty, Decides, Moves, Publishes, Wipes}
use Rattle.flurry_steps_theory.specs.Invariant.{IsParty, is_live, Tables, home_after, new_world}
use Rattle.flurry_steps_theory.proofs.Bins.{find-after, find-after_other, find-half, ascending-half, region-half, find-wiped, in_a_half, in_low_half, in_high_half, small_mod, high_mod, double}
use Rattle.flurry_base.specs.declared.call.Call.{Call}
use Rattle.flurry_base.specs.declared.call.Call.TheVariants.{Insert, TryInsert, Compute, Alter, RemoveSeen}
use Rattle.flurry_base.specs.declared.reply.KeptReply.{KeptReply}
use Rattle.flurry_base.specs.declared.reply.KeptReply.TheVariants.{Value, Pair, New, Changed}
use Rattle.flurry_base.specs.declared.verdict.Verdict.{Verdict}
use Rattle.flurry_steps_theory.specs.declared.Label.{Label}
use Rattle.flurry_steps_theory.specs.declared.Label.TheVariants.{Decide, Wipe}

pub same_some : {X : Type 0} {x y : X} → Some x ≡ Some y → x ≡ y
same_some {X} {x} h = ap (λ o. unwrap_or o x) h

pub same_live : {K V : Type 0} {es fs : List (Entry K V)} {n m : ℕ} → Live es n ≡ Live fs m → es ≡ fs
same_live h = ap entries_of h
  where
    entries_of : {K V : Type 0} → Slot K V → List (Entry K V)
    entries_of (Live es n) = es
    entries_of Moved = []
    entries_of Unborn = []

-- what tells whether a place or a bin is the one that was changed
pub ruleset placing = (arith, eqb-true, eqb-false, eq-eqb, ne_eqb, and_parts, and_cases)

-- what a function has at a bin, after one bin was changed
pub update2_elim : {X : Type 0} (f : ℕ → ℕ → X) (e i : ℕ) (x : X) (Q : ℕ → ℕ → X → Type 0) (d j : ℕ) → Q e i x → ((e ≡ d → i ≡ j → ⊥) → Q d j (f d j)) → Q d j (update2 f e i x d j)
update2_elim {X} f e i x Q d j h k = go (e == d) refl (i == j) refl
  where
    go : (b : Bool) → (e == d) ≡ b → (c : Bool) → (i == j) ≡ c → Q d j (cond (b && c) x (f d j))
    go true u true v = subst (λ n. Q n j x) (eqb-true e d u) (subst (λ n. Q e n x) (eqb-true i j v) h)
    go true u false v = k (λ a b. eqb-false i j v b)
    go false u true v = k (λ a b. eqb-false e d u a)
    go false u false v = k (λ a b. eqb-false e d u a)

-- where a live bin has other entries, bins that are not live stay,
pub dead_stays : {K V : Type 0} (f : ℕ → ℕ → Slot K V) (e i : ℕ) (es : List (Entry K V)) (n : ℕ) (fs : List (Entry K V)) (m : ℕ) → f e i ≡ Live es n → (d j : ℕ) (v : Slot K V) → is_live v ≡ false → f d j ≡ v → update2 f e i (Live fs m) d j ≡ v
dead_stays f e i es n fs m there d j v dead = update2_elim f e i (Live fs m) (λ d j w. f d j ≡ v → w ≡ v) d j (λ h. absurd (grind (arith, there, h, dead))) (λ _ h. h)

-- and were so before
pub dead_before : {K V : Type 0} (f : ℕ → ℕ → Slot K V) (e i : ℕ) (fs : List (Entry K V)) (m : ℕ) (d j : ℕ) (v : Slot K V) → is_live v ≡ false → update2 f e i (Live fs m) d j ≡ v → f d j ≡ v
dead_before f e i fs m d j v dead = update2_elim f e i (Live fs m) (λ d j w. w ≡ v → f d j ≡ v) d j (λ h. absurd (grind (arith, h, dead))) (λ _ h. h)

module _ {K V F : Type 0} (cmp : K → K → Ordering) (total : IsTotalOrder cmp) (hash : K → ℕ) (lawful : (j k : K) → same cmp j k ≡ true → hash j ≡ hash k) (gives : F → K → Option V → Verdict V → Type 0) where
  -- a hash has one live bin
  pub only : (home : ℕ → ℕ) (s : State K V F) (h d : ℕ) → Tables cmp hash home s → is_live (s.slot d (h % 2 ^ d)) ≡ true → home h ≡ d
  only home s h d t l = grind (arith, l, t.no_table, t.below, t.above, t.early, cases_order (home h) d)

  -- what a move needs to know
  below_size : (home : ℕ → ℕ) (s : State K V F) (e i : ℕ) (es : List (Entry K V)) (n : ℕ) → Tables cmp hash home s → s.slot e i ≡ Live es n → i < 2 ^ e
  below_size home s e i es n t l = grind (arith, l, t.outside)

  pub homes : (home : ℕ → ℕ) (s : State K V F) (e i : ℕ) (es : List (Entry K V)) (n h : ℕ) → Tables cmp hash home s → s.slot e i ≡ Live es n → h % 2 ^ e ≡ i → home h ≡ e
  homes home s e i es n h t l g = only home s h e t (grind (arith, l, g))

  made : (home : ℕ → ℕ) (s : State K V F) (e i : ℕ) (es : List (Entry K V)) (n : ℕ) → Tables cmp hash home s → s.slot e i ≡ Live es n → is_some s.published ≡ true
  made home s e i es n t l = grind (arith, l, t.no_table)

  from_start : (home : ℕ → ℕ) (s : State K V F) (e i : ℕ) (es : List (Entry K V)) (n : ℕ) → Tables cmp hash home s → s.slot e i ≡ Live es n → s.start ≤ e
  from_start home s e i es n t l = grind (arith, l, t.early)

  halves_unborn : (home : ℕ → ℕ) (s : State K V F) (e i : ℕ) (es : List (Entry K V)) (n : ℕ) → Tables cmp hash home s → s.slot e i ≡ Live es n → (s.slot (suc e) i ≡ Unborn) × (s.slot (suc e) (i + 2 ^ e) ≡ Unborn)
  halves_unborn home s e i es n t l =
      let lt : i < 2 ^ e = below_size home s e i es n t l in
      let low : i % 2 ^ e ≡ i = small_mod e i lt in
      let low' : i % 2 ^ suc e ≡ i = small_mod (suc e) i (omega (arith, lt, double e)) in
      let high : (i + 2 ^ e) % 2 ^ e ≡ i = high_mod e i lt in
      let high' : (i + 2 ^ e) % 2 ^ suc e ≡ i + 2 ^ e = small_mod (suc e) (i + 2 ^ e) (omega (arith, lt, double e)) in
      let m : is_some s.published ≡ true = made home s e i es n t l in
      (grind (arith, low', t.above m i (suc e), homes home s e i es n i t l low), grind (arith, high', t.above m (i + 2 ^ e) (suc e), homes home s e i es n (i + 2 ^ e) t l high))

  pub content_at : (home : ℕ → ℕ) (s : State K V F) (k : K) (d j : ℕ) (es : List (Entry K V)) (n : ℕ) → Tables cmp hash home s → home (hash k) ≡ d → hash k % 2 ^ d ≡ j → s.slot d j ≡ Live es n → find cmp (pairs_of es) k ≡ at cmp hash s.trace k
  content_at home s k d j es n t hd hj l = t.content k es n (grind (arith, hd, hj, l))

  moves_content : (home : ℕ → ℕ) (s : State K V F) (p : ℕ) (a : Claim) (i : ℕ) (es : List (Entry K V)) (n : ℕ) → Enabled cmp hash gives s p (Moves a i es n) → Tables cmp hash home s → (home' : ℕ → ℕ) → ((h : ℕ) → home' h ≡ cond (h % 2 ^ a.table == i) (suc a.table) (home h))
      → (k : K) (fs : List (Entry K V)) (m d j : ℕ) → home' (hash k) ≡ d → hash k % 2 ^ d ≡ j → (next_state cmp hash gives s p (Moves a i es n)).slot d j ≡ Live fs m → find cmp (pairs_of fs) k ≡ at cmp hash s.trace k
  moves_content home s p a i es n can t home' is k fs m d j =
      let l : s.slot a.table i ≡ Live es n = can.3 in
      let lt : i < 2 ^ a.table = below_size home s a.table i es n t l in
      update2_elim (update2 (update2 s.slot a.table i Moved) (suc a.table) i (Live (half hash (suc a.table) i es) n)) (suc a.table) (i + 2 ^ a.table) (Live (half hash (suc a.table) (i + 2 ^ a.table) es) n)
      (λ d j v. home' (hash k) ≡ d → hash k % 2 ^ d ≡ j → v ≡ Live fs m → find cmp (pairs_of fs) k ≡ at cmp hash s.trace k) d j
      (λ hd hj u. ap (λ es. find cmp (pairs_of es) k) (sym (same_live u)) ∙ find-half cmp total hash lawful (suc a.table) (i + 2 ^ a.table) es k hj ∙ content_at home s k a.table i es n t (homes home s a.table i es n (hash k) t l (in_high_half (hash k) a.table i lt hj)) (in_high_half (hash k) a.table i lt hj) l)
      (λ ne. update2_elim (update2 s.slot a.table i Moved) (suc a.table) i (Live (half hash (suc a.table) i es) n)
      (λ d j v. home' (hash k) ≡ d → hash k % 2 ^ d ≡ j → v ≡ Live fs m → find cmp (pairs_of fs) k ≡ at cmp hash s.trace k) d j
      (λ hd hj u. ap (λ es. find cmp (pairs_of es) k) (sym (same_live u)) ∙ find-half cmp total hash lawful (suc a.table) i es k hj ∙ content_at home s k a.table i es n t (homes home s a.table i es n (hash k) t l (in_low_half (hash k) a.table i lt hj)) (in_low_half (hash k) a.table i lt hj) l)
      (λ ne'. update2_elim s.slot a.table i Moved
      (λ d j v. (suc a.table ≡ d → i ≡ j → ⊥) → (suc a.table ≡ d → i + 2 ^ a.table ≡ j → ⊥) → home' (hash k) ≡ d → hash k % 2 ^ d ≡ j → v ≡ Live fs m → find cmp (pairs_of fs) k ≡ at cmp hash s.trace k) d j
      (λ _ _ _ _ u. grind (arith, u))
      (λ ne'' b c hd hj u. content_at home s k d j fs m t (grind (arith, is (hash k), hd, hj, b, c, eqb-true, eqb-false, in_a_half (hash k) a.table i)) hj u) ne' ne))

  moves_ascending : (home : ℕ → ℕ) (s : State K V F) (p : ℕ) (a : Claim) (i : ℕ) (es : List (Entry K V)) (n : ℕ) → Enabled cmp hash gives s p (Moves a i es n) → Tables cmp hash home s
      → (d j : ℕ) (fs : List (Entry K V)) (m : ℕ) → (next_state cmp hash gives s p (Moves a i es n)).slot d j ≡ Live fs m → IsAscending cmp hash fs × InRegion hash d j fs
  moves_ascending home s p a i es n can t d j fs m =
      let l : s.slot a.table i ≡ Live es n = can.3 in
      let asc : IsAscending cmp hash es × InRegion hash a.table i es = t.ascending a.table i es n l in
      update2_elim (update2 (update2 s.slot a.table i Moved) (suc a.table) i (Live (half hash (suc a.table) i es) n)) (suc a.table) (i + 2 ^ a.table) (Live (half hash (suc a.table) (i + 2 ^ a.table) es) n)
      (λ d j v. v ≡ Live fs m → IsAscending cmp hash fs × InRegion hash d j fs) d j
      (λ u. subst (λ fs. IsAscending cmp hash fs × InRegion hash (suc a.table) (i + 2 ^ a.table) fs) (same_live u) (ascending-half cmp total hash lawful (suc a.table) (i + 2 ^ a.table) es asc.0, region-half cmp total hash lawful (suc a.table) (i + 2 ^ a.table) es))
      (λ _. update2_elim (update2 s.slot a.table i Moved) (suc a.table) i (Live (half hash (suc a.table) i es) n)
      (λ d j v. v ≡ Live fs m → IsAscending cmp hash fs × InRegion hash d j fs) d j
      (λ u. subst (λ fs. IsAscending cmp hash fs × InRegion hash (suc a.table) i fs) (same_live u) (ascending-half cmp total hash lawful (suc a.table) i es asc.0, region-half cmp total hash lawful (suc a.table) i es))
      (λ _. update2_elim s.slot a.table i Moved
      (λ d j v. v ≡ Live fs m → IsAscending cmp hash fs × InRegion hash d j fs) d j
      (λ u. absurd (grind (arith, u)))
      (λ _ u. t.ascending d j fs m u)))

  moves_ok : (home : ℕ → ℕ) (s : State K V F) (p : ℕ) (a : Claim) (i : ℕ) (es : List (Entry K V)) (n : ℕ) → Enabled cmp hash gives s p (Moves a i es n) → Tables cmp hash home s → Tables cmp hash (home_after {K = K} {V = V} {F = F} home (Moves a i es n)) (next_state cmp hash gives s p (Moves a i es n))
  moves_ok home s p a i es n can t =
      let l : s.slot a.table i ≡ Live es n = can.3 in
      let lt : i < 2 ^ a.table = below_size home s a.table i es n t l in
      let m : is_some s.published ≡ true = made home s a.table i es n t l in
      let st : s.start ≤ a.table = from_start home s a.table i es n t l in
      let u : (s.slot (suc a.table) i ≡ Unborn) × (s.slot (suc a.table) (i + 2 ^ a.table) ≡ Unborn) = halves_unborn home s a.table i es n t l in
      record {
        no_table = grind (arith, m);
        from = λ f e. (grind (arith, t.from, e), λ h. grind (arith, t.from, e, homes home s a.table i es n h t l, eqb-true));
        live = λ _ h. grind (arith, t.live m h, homes home s a.table i es n h t l, eqb-true, eqb-false, eq-eqb, ne_eqb, and_parts, and_cases, in_a_half h a.table i, in_low_half h a.table i lt, in_high_half h a.table i lt, l);
        below = λ _ h d. grind (arith, m, t.below m h d, st, homes home s a.table i es n h t l, eqb-true, eqb-false, and_parts, and_cases, eq-eqb, ne_eqb, in_low_half h a.table i lt, in_high_half h a.table i lt);
        above = λ _ h d. grind (arith, m, t.above m h d, homes home s a.table i es n h t l, eqb-true, eqb-false, and_parts, and_cases, eq-eqb, ne_eqb, in_a_half h a.table i, in_low_half h a.table i lt, in_high_half h a.table i lt);
        early = λ d j. grind (arith, t.early d j, st, eqb-true, eqb-false, and_parts, and_cases);
        outside = λ d j. grind (arith, t.outside d j, lt, double a.table, eqb-true, eqb-false, and_parts, and_cases);
        ascending = moves_ascending home s p a i es n can t;
        empty = grind (arith, m);
        content = λ k fs m u. moves_content home s p a i es n can t (home_after {K = K} {V = V} {F = F} home (Moves a i es n)) (λ _. refl) k fs m _ _ refl refl u;
        was_moved = λ d j. grind (arith, t.was_moved d j, eqb-true, eqb-false, and_parts, and_cases);
        is_moved = λ d j. grind (arith, t.is_moved d j, u, eqb-true, eqb-false, and_parts, and_cases, eq-eqb, and_from, or_cases);
      }

  empty_after : (c : Call K V F) (r : KeptReply K V) (k : K) → (Adds c → ⊥) → Allows cmp gives c [] r → find cmp (after cmp c r []) k ≡ None
  empty_after (Insert i v) r k h a = absurd (h tt)
  empty_after (TryInsert i v) r k h a = absurd (h tt)
  empty_after (Compute i g) (Value (Some w)) k h a = grind (arith, a)
  empty_after (Alter i true g) r k h a = absurd (h tt)
  empty_after (Alter i false g) (New w) k h a = grind (arith, a)
  empty_after (Alter i false g) (Changed w o) k h a = grind (arith, a)
  empty_after (Alter i false g) (Pair (Some x)) k h a = refl
  empty_after (RemoveSeen z) (Value (Some w)) k h a = refl
  empty_after c r k h a = refl

  -- the map after a decision
  at-decide : (s : State K V F) (p : ℕ) (c : Call K V F) (r : KeptReply K V) (k : K) → IsParty s p → s.call p ≡ Some c → at cmp hash (Decide p r ∷ s.trace) k ≡ find cmp (after cmp c r (pairs cmp hash s.trace)) k
  at-decide s p c r k o h = ap (λ u. find cmp (map_after_decision cmp hash u r (pairs cmp hash s.trace)) k) (o.call ∙ h)

  decides_content : (home : ℕ → ℕ) (s : State K V F) (p : ℕ) (c : Call K V F) (k : K) (e : ℕ) (es : List (Entry K V)) (n : ℕ) (r : KeptReply K V) (fs : List (Entry K V)) (m : ℕ) → Enabled cmp hash gives s p (Decides c k e es n r fs m) → IsParty s p → Tables cmp hash home s
      → (q : K) (gs : List (Entry K V)) (u : ℕ) → update2 s.slot e (hash k % 2 ^ e) (Live fs m) (home (hash q)) (hash q % 2 ^ home (hash q)) ≡ Live gs u → find cmp (pairs_of gs) q ≡ at cmp hash (Decide p r ∷ s.trace) q
  decides_content home s p c k e es n r fs m can o t q gs u =
      let l : s.slot e (hash k % 2 ^ e) ≡ Live es n = can.4 in
      let hk : home (hash k) ≡ e = homes home s e (hash k % 2 ^ e) es n (hash k) t l refl in
      let here : (i : K) → key_of c ≡ Some i → find cmp (pairs_of es) i ≡ find cmp (pairs cmp hash s.trace) i = λ i g. subst (λ i. find cmp (pairs_of es) i ≡ find cmp (pairs cmp hash s.trace) i) (same_some (sym can.1 ∙ g)) (content_at home s k e (hash k % 2 ^ e) es n t hk refl l) in
      update2_elim s.slot e (hash k % 2 ^ e) (Live fs m) (λ d j v. home (hash q) ≡ d → hash q % 2 ^ d ≡ j → v ≡ Live gs u → find cmp (pairs_of gs) q ≡ at cmp hash (Decide p r ∷ s.trace) q) (home (hash q)) (hash q % 2 ^ home (hash q))
      (λ hd hj w. ap (λ es. find cmp (pairs_of es) q) (sym (same_live w)) ∙ can.5.after q ∙ find-after cmp total c r (pairs_of es) (pairs cmp hash s.trace) q here (content_at home s q e (hash k % 2 ^ e) es n t hd hj l) ∙ sym (at-decide s p c r q o can.0))
      (λ ne hd hj w. content_at home s q (home (hash q)) (hash q % 2 ^ home (hash q)) gs u t refl refl w ∙ sym (at-decide s p c r q o can.0 ∙ find-after_other cmp total c r (pairs cmp hash s.trace) k q can.1 (false_from_ne_true (same cmp k q) (λ y. ne (grind (arith, hk, lawful k q y)) (grind (arith, hk, lawful k q y))))))
      refl refl

  wipes_content : (home : ℕ → ℕ) (s : State K V F) (p wiped e i : ℕ) (f : Frame K) (fs : List (Frame K)) (es : List (Entry K V)) (n : ℕ) → Enabled cmp hash gives s p (Wipes wiped e i f fs es n) → Tables cmp hash home s
      → (q : K) (gs : List (Entry K V)) (u : ℕ) → update2 s.slot f.table f.index (Live [] n) (home (hash q)) (hash q % 2 ^ home (hash q)) ≡ Live gs u → find cmp (pairs_of gs) q ≡ at cmp hash (Wipe p f.table f.index ∷ s.trace) q
  wipes_content home s p wiped e i f fs es n can t q gs u =
      let l : s.slot f.table f.index ≡ Live es n = can.1 in
      update2_elim s.slot f.table f.index (Live [] n) (λ d j v. home (hash q) ≡ d → hash q % 2 ^ d ≡ j → v ≡ Live gs u → find cmp (pairs_of gs) q ≡ at cmp hash (Wipe p f.table f.index ∷ s.trace) q) (home (hash q)) (hash q % 2 ^ home (hash q))
      (λ hd hj w. ap (λ es. find cmp (pairs_of es) q) (sym (same_live w)) ∙ sym (find-wiped cmp total hash lawful f.table f.index (pairs cmp hash s.trace) q ∙ cond-true (in_region f.table f.index (hash q)) None (at cmp hash s.trace q) (eq-eqb _ _ hj)))
      (λ ne hd hj w. content_at home s q (home (hash q)) (hash q % 2 ^ home (hash q)) gs u t refl refl w ∙ sym (find-wiped cmp total hash lawful f.table f.index (pairs cmp hash s.trace) q ∙ cond-false (in_region f.table f.index (hash q)) None (at cmp hash s.trace q) (ne_eqb _ _ (λ y. ne (sym (homes home s f.table f.index es n (hash q) t l y)) (grind (arith, homes home s f.table f.index es n (hash q) t l y, y))))))
      refl refl

  -- where the tables, their bins and the map are the same
  keep_tables : (home : ℕ → ℕ) (s z : State K V F) → z.published ≡ s.published → z.start ≡ s.start → ((d j : ℕ) → z.slot d j ≡ s.slot d j) → ((k : K) → at cmp hash z.trace k ≡ at cmp hash s.trace k) → ((d j : ℕ) → was_moved_in z.trace d j ≡ was_moved_in s.trace d j) → Tables cmp hash home s → Tables cmp hash home z
  keep_tables home s z p b v m w t = record {
    no_table = λ h d j. v d j ∙ t.no_table (sym p ∙ h) d j;
    from = λ f h. let u = t.from f (sym p ∙ h) in (omega (arith, b, u.0), u.1);
    live = λ h x. ap is_live (v (home x) (x % 2 ^ home x)) ∙ t.live (ap is_some (sym p) ∙ h) x;
    below = λ h x d l g. v d (x % 2 ^ d) ∙ t.below (ap is_some (sym p) ∙ h) x d (omega (arith, b, l)) g;
    above = λ h x d l. v d (x % 2 ^ d) ∙ t.above (ap is_some (sym p) ∙ h) x d l;
    early = λ d j l. v d j ∙ t.early d j (omega (arith, b, l));
    outside = λ d j l. v d j ∙ t.outside d j l;
    ascending = λ d j es n h. t.ascending d j es n (sym (v d j) ∙ h);
    empty = λ h k. m k ∙ t.empty (sym p ∙ h) k;
    content = λ k es n h. t.content k es n (sym (v (home (hash k)) (hash k % 2 ^ home (hash k))) ∙ h) ∙ sym (m k);
    was_moved = λ d j h. w d j ∙ t.was_moved d j (sym (v d j) ∙ h);
    is_moved = λ d j h. v d j ∙ t.is_moved d j (sym (w d j) ∙ h);
  }

  -- a live bin that has other entries, which hold the map after the label
  put_tables : (home : ℕ → ℕ) (s : State K V F) (e i : ℕ) (es : List (Entry K V)) (n : ℕ) (fs : List (Entry K V)) (m : ℕ) (l : Label K V F) → s.slot e i ≡ Live es n → Tables cmp hash home s → IsAscending cmp hash fs × InRegion hash e i fs → ((d j : ℕ) → was_moved_in (l ∷ s.trace) d j ≡ was_moved_in s.trace d j)
      → ((k : K) (gs : List (Entry K V)) (u : ℕ) → update2 s.slot e i (Live fs m) (home (hash k)) (hash k % 2 ^ home (hash k)) ≡ Live gs u → find cmp (pairs_of gs) k ≡ at cmp hash (l ∷ s.trace) k)
      → Tables cmp hash home (record s { slot = update2 s.slot e i (Live fs m); trace = l ∷ s.trace })
  put_tables home s e i es n fs m l there t fits w claim_holds = record {
    no_table = λ h. absurd (grind (arith, h, made home s e i es n t there));
    from = t.from;
    live = λ h x. update2_elim s.slot e i (Live fs m) (λ _ _ v. is_live v ≡ true) (home x) (x % 2 ^ home x) refl (λ _. t.live h x);
    below = λ h x d a b. stays d (x % 2 ^ d) Moved refl (t.below h x d a b);
    above = λ h x d a. stays d (x % 2 ^ d) Unborn refl (t.above h x d a);
    early = λ d j a. stays d j Unborn refl (t.early d j a);
    outside = λ d j a. stays d j Unborn refl (t.outside d j a);
    ascending = λ d j gs u. update2_elim s.slot e i (Live fs m) (λ d j v. v ≡ Live gs u → IsAscending cmp hash gs × InRegion hash d j gs) d j (λ h. subst (λ gs. IsAscending cmp hash gs × InRegion hash e i gs) (same_live h) fits) (λ _. t.ascending d j gs u);
    empty = λ h. absurd (grind (arith, h, made home s e i es n t there));
    content = claim_holds;
    was_moved = λ d j h. w d j ∙ t.was_moved d j (dead_before s.slot e i fs m d j Moved refl h);
    is_moved = λ d j h. stays d j Moved refl (t.is_moved d j (sym (w d j) ∙ h));
  }
    where
      stays : (d j : ℕ) (v : Slot K V) → is_live v ≡ false → s.slot d j ≡ v → update2 s.slot e i (Live fs m) d j ≡ v
      stays = dead_stays s.slot e i es n fs m there

  -- a new world, without a table or with table e
  new_bin : (P : List (Entry K V) → Type 0) (b : Bool) (es : List (Entry K V)) (n : ℕ) → P [] → cond b (Live [] 0) Unborn ≡ Live es n → P es
  new_bin P true es n p h = subst P (same_live h) p
  new_bin P false es n p h = absurd (grind (arith, h))

  pub new_tables : (e : ℕ) (b : Bool) → Tables cmp hash (λ _. e) (new_world {K = K} {V = V} {F = F} e b)
  new_tables e b = record {
    no_table = λ h d j. grind (arith, h);
    from = λ f h. (grind (arith, h), λ _. grind (arith, h));
    live = λ h x. grind (arith, h, mod_below x (2 ^ e) (pow_pos e), lt-ltb, eq-eqb e e refl);
    below = λ h x d l m. absurd (omega (arith, l, m));
    above = λ h x d l. grind (arith, l, eqb-true, and_parts);
    early = λ d j l. grind (arith, l, eqb-true, and_parts);
    outside = λ d j l. grind (arith, l, eqb-true, and_parts, ltb-true);
    ascending = λ d j es n h. new_bin (λ fs. IsAscending cmp hash fs × InRegion hash d j fs) (b && (e == d && nat_lt j (2 ^ e))) es n (tt, tt) h;
    empty = λ _ k. refl;
    content = λ k es n h. new_bin (λ fs. find cmp (pairs_of fs) k ≡ None) (b && (e == e && nat_lt (hash k % 2 ^ e) (2 ^ e))) es n refl h;
    was_moved = λ d j h. absurd (grind (arith, h));
    is_moved = λ d j h. absurd (grind (arith, h));
  }

  -- the table whose growth the transition ends
  abbrev pub growth_ended : Transition K V F → Option ℕ
  growth_ended (Publishes e g) = Some e
  growth_ended l = None

  pub tables_ok : (home : ℕ → ℕ) (s : State K V F) (p : ℕ) (l : Transition K V F) → Enabled cmp hash gives s p l → IsParty s p → ((e : ℕ) → growth_ended l ≡ Some e → (s.published ≡ Some e) × ((i : ℕ) → i < 2 ^ e → s.slot e i ≡ Moved)) → Tables cmp hash home s → Tables cmp hash (home_after home l) (next_state cmp hash gives s p l)
  tables_ok home s p (Opens e) can o ready t = keep_tables (λ _. e) (new_world e true) _ refl refl (λ d j. ap (λ v. if e == d && nat_lt j (2 ^ e) then Live [] 0 else v) (t.no_table can.3 d j)) (t.empty can.3) (λ d j. false_from_ne_true (was_moved_in s.trace d j) (λ h. grind (arith, t.no_table can.3 d j, t.is_moved d j h))) (new_tables e true)
  tables_ok home s p (DecidesEmpty c r) can o ready t = record {
    no_table = t.no_table;
    from = t.from;
    live = t.live;
    below = t.below;
    above = t.above;
    early = t.early;
    outside = t.outside;
    ascending = t.ascending;
    empty = λ e k. at-decide s p c r k o can.0 ∙ find-after cmp total c r (pairs cmp hash s.trace) [] k (λ j _. t.empty e j) (t.empty e k) ∙ empty_after c r k can.3 can.4;
    content = grind (arith, can, t.no_table);
    was_moved = t.was_moved;
    is_moved = t.is_moved;
  }
  tables_ok home s p (Decides c k e es n r fs m) can o ready t = keep_tables home _ _ refl refl (λ _ _. refl) (λ _. refl) (λ _ _. refl) (put_tables home s e (hash k % 2 ^ e) es n fs m (Decide p r) can.4 t (can.5.ascending, can.6) (λ _ _. refl) (decides_content home s p c k e es n r fs m can o t))
  tables_ok home s p (Moves a i es n) can o ready t = moves_ok home s p a i es n can t
  tables_ok home s p (Publishes e g) can o ready t = record {
    no_table = λ h. absurd (grind (arith, h));
    from = λ f h. let w : (s.start ≤ e) × ((j : ℕ) → e ≤ home j) = t.from e (ready e refl).0 in (grind (arith, h, w.0), λ j. grind (arith, h, w.1 j, (ready e refl).1 (j % 2 ^ e) (mod_below j (2 ^ e) (pow_pos e)), t.live (grind (arith, (ready e refl).0)) j));
    live = λ _. t.live (grind (arith, (ready e refl).0));
    below = λ _. t.below (grind (arith, (ready e refl).0));
    above = λ _. t.above (grind (arith, (ready e refl).0));
    early = t.early;
    outside = t.outside;
    ascending = t.ascending;
    empty = λ h. absurd (grind (arith, h));
    content = t.content;
    was_moved = t.was_moved;
    is_moved = t.is_moved;
  }
  tables_ok home s p (Wipes wiped e i f fs es n) can o ready t = keep_tables home _ _ refl refl (λ _ _. refl) (λ _. refl) (λ _ _. refl) (put_tables home s f.table f.index es n [] n (Wipe p f.table f.index) can.1 t (tt, tt) (λ _ _. refl) (wipes_content home s p wiped e i f fs es n can t))
  tables_ok home s p l can o ready t = keep_tables home s _ refl refl (λ _ _. refl) (λ _. refl) (λ _ _. refl) t
