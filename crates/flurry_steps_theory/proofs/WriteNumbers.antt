-- Write numbers, and conditional removals.
use Rattle.std.specs.Prelude.{length, IfSome, ℕ, suc, ◌+◌, ◌-◌, ◌%◌, ◌^◌, ◌<◌, ◌≤◌, ◌==◌, nat_lt, Bool, true, false, not, cond, ◌&&◌, ◌||◌, List, [], ◌∷◌, Option, Some, None, option_map, if◌then◌else◌, ◌≡◌, ◌⊎◌}
use Rattle.std.specs.declared.cmp.Ordering.{Ordering}
use Rattle.std.specs.Cmp.{IsTotalOrder}
use Rattle.std.proofs.Common.{arith, refl, sym, ◌∙◌, ap, subst, inl, inr}
use Rattle.std.proofs.lemmas.Grind.{common_steps}
use Rattle.std.proofs.lemmas.Bool.{eqb-true, eqb-false, eq-eqb, ne_eqb, cases_Bool, and_parts, and_from, and_cases, lt-ltb, ltb-true}
use Rattle.std.proofs.lemmas.Nat.{mod_below, pow_pos}
use Rattle.flurry_base.specs.OneKey.{key_of}
use Rattle.flurry_steps_theory.specs.Map.{same, Allows}
use Rattle.flurry_steps_theory.specs.Trace.{Trace, begins, call_begun_by, decision, last_read, read_before}
use Rattle.flurry_steps_theory.specs.Bin.{Entry, number_of, bump, has_number, past, first_past, IsAscending, InRegion, half}
use Rattle.flurry_steps_theory.specs.Machine.{State, Slot, Claim, Transition, Enabled, next_state, label, update2, update, Live, Frame, Begins, Opens, DecidesEmpty, Decides, Moves, Reads, Wipes}
use Rattle.flurry_steps_theory.specs.Invariant.{IsParty, Tables, home_after, Origins, pair_seen, number_in, writes_in, newer, number_at, writes_at, JudgesRead, WriteNumbers}
use Rattle.flurry_steps_theory.proofs.Bins.{one_class, past-same, region-first_past, found-first_past, in_a_half, in_low_half, in_high_half}
use Rattle.flurry_steps_theory.proofs.Tables.{update2_elim, same_some, homes}
use Rattle.flurry_steps_theory.proofs.Ranges.{place_here, place_other}
use Rattle.flurry_steps_theory.proofs.Origins.{begun_after}
use Rattle.flurry_steps_theory.specs.Legal
use Rattle.flurry_steps_theory.specs.Legal.{touches, changed_by, is_class, changes, removes, is_untouched, untouched_for, RemovalMay, EachMay, RemovesPair}
use Rattle.flurry_base.specs.declared.call.Seen.{Seen}
use Rattle.flurry_base.specs.declared.call.Call.{Call}
use Rattle.flurry_base.specs.declared.call.Call.TheVariants.{RemoveSeen}
use Rattle.flurry_base.specs.declared.reply.KeptReply.{KeptReply}
use Rattle.flurry_base.specs.declared.verdict.Verdict.{Verdict}
use Rattle.flurry_steps_theory.specs.declared.Label.{Label}
use Rattle.flurry_steps_theory.specs.declared.Label.TheVariants.{Begin, Decide, Wipe, Moved as MovedBin}
use Rattle.flurry_base.specs.declared.sizes.TheConstants.{MAX_LABELS}

-- a count of writes goes up by one at most, and stays at the greatest number
bump_rises : (n : ℕ) → (n ≤ bump n) × (bump n ≤ n + 1)
bump_rises n = grind arith

bump_limit : (n : ℕ) → n ≤ 2 ^ 64 - 1 → bump n ≤ 2 ^ 64 - 1
bump_limit n l = grind (arith, l, ltb-true n (2 ^ 64 - 1))

bump_new : (n : ℕ) → n ≤ 2 ^ 64 - 1 → (bump n ≡ n + 1) ⊎ (bump n ≡ 2 ^ 64 - 1)
bump_new n l = grind (arith, l, lt-ltb n (2 ^ 64 - 1))

-- a changed bin, or another
update2_cases : {X : Type 0} (f : ℕ → ℕ → X) (e i : ℕ) (x : X) (d j : ℕ) → ((update2 f e i x d j ≡ x) × (e ≡ d) × (i ≡ j)) ⊎ ((update2 f e i x d j ≡ f d j) × (e ≡ d → i ≡ j → ⊥))
update2_cases f e i x d j = update2_elim f e i x (λ d j v. ((v ≡ x) × (e ≡ d) × (i ≡ j)) ⊎ ((v ≡ f d j) × (e ≡ d → i ≡ j → ⊥))) d j (inl (refl, refl, refl)) (λ ne. inr (refl, ne))

module _ {K V F : Type 0} (cmp : K → K → Ordering) (total : IsTotalOrder cmp) (hash : K → ℕ) (lawful : (j k : K) → same cmp j k ≡ true → hash j ≡ hash k) (gives : F → K → Option V → Verdict V → Type 0) where
  number-class : (es : List (Entry K V)) (j k : K) → same cmp j k ≡ true → number_of cmp es j ≡ number_of cmp es k
  number-class [] j k h = refl
  number-class (x ∷ es) j k h = grind (arith, number-class es j k h, (one_class cmp total).symm x.key j, (one_class cmp total).symm x.key k, (one_class cmp total).congr j k x.key h)

  number-half : (e i : ℕ) (es : List (Entry K V)) (k : K) → hash k % 2 ^ e ≡ i → number_of cmp (half hash e i es) k ≡ number_of cmp es k
  number-half e i [] k h = refl
  number-half e i (x ∷ es) k h = grind (arith, common_steps, number-half e i es k h, lawful x.key k, ne_eqb, eq-eqb)

  number-first_past : (b : Option K) (es : List (Entry K V)) (x : Entry K V) → IsAscending cmp hash es → first_past cmp hash b es ≡ Some x → number_of cmp es x.key ≡ Some x.number
  number-first_past b [] x a f = grind (arith, f)
  number-first_past b (y ∷ es) x a f = go (number-first_past b es x a.1) (past cmp hash b y.key) refl
    where
      go : (first_past cmp hash b es ≡ Some x → number_of cmp es x.key ≡ Some x.number) → (u : Bool) → past cmp hash b y.key ≡ u → number_of cmp (y ∷ es) x.key ≡ Some x.number
      go more true e = grind (arith, e, f, (one_class cmp total).refl y.key)
      go more false e = grind (arith, e, f, more, past-same cmp total hash lawful b y.key x.key, (found-first_past cmp total hash lawful b es x a.1 (grind (arith, e, f))).1)

  -- what a label does to the numbers of each class
  record Change (t : Trace K V F) (l : Label K V F) (number number' : K → Option ℕ) (writes writes' : K → ℕ) : Type 0 where
    grows : (k : K) → (writes k ≤ writes' k) × (writes' k ≤ writes k + 1)
    limit : (k : K) → writes k ≤ 2 ^ 64 - 1 → writes' k ≤ 2 ^ 64 - 1
    kept : (k : K) → touches cmp hash gives t l k ≡ false → number' k ≡ number k
    new : (k : K) → touches cmp hash gives t l k ≡ true → (number' k ≡ None) ⊎ ((number' k ≡ Some (writes' k)) × (writes' k ≡ bump (writes k)))

  touch_decide : (s : State K V F) (p : ℕ) (c : Call K V F) (k : K) (r : KeptReply K V) (j : K) → IsParty s p → s.call p ≡ Some c → key_of c ≡ Some k → touches cmp hash gives s.trace (Decide p r) j ≡ (changes cmp hash gives c r && same cmp k j)
  touch_decide s p c k r j o h e = ap (λ b. changed_by cmp hash gives b r j) (o.call ∙ h) ∙ ap (λ b. changes cmp hash gives c r && is_class cmp hash gives b j) e

  decides_change : (home : ℕ → ℕ) (s : State K V F) (p : ℕ) (c : Call K V F) (k : K) (e : ℕ) (es : List (Entry K V)) (n : ℕ) (r : KeptReply K V) (fs : List (Entry K V)) (m : ℕ) → Enabled cmp hash gives s p (Decides c k e es n r fs m) → IsParty s p → Tables cmp hash home s
      → Change s.trace (Decide p r) (number_at cmp hash gives home s) (number_at cmp hash gives home (next_state cmp hash gives s p (Decides c k e es n r fs m))) (writes_at cmp hash gives home s) (writes_at cmp hash gives home (next_state cmp hash gives s p (Decides c k e es n r fs m)))
  decides_change home s p c k e es n r fs m can o t = record {
    grows = λ j. grind (arith, place j, can.4, can.5.count, bump_rises n);
    limit = λ j l. grind (arith, place j, can.4, can.5.count, bump_limit n, l);
    kept = λ j h. grind (arith, place j, can.4, h, touch_decide s p c k r j o can.0 can.1, can.5.kept_numbers, can.5.other_numbers k j can.1, and_cases);
    new = λ j h. grind (arith, place j, can.4, h, touch_decide s p c k r j o can.0 can.1, and_parts, can.5.new_number, number-class fs k j, lawful k j, homes cmp total hash lawful gives home s e (hash k % 2 ^ e) es n (hash k) t can.4 refl, can.1);
  }
    where
      place : (j : K) → ((update2 s.slot e (hash k % 2 ^ e) (Live fs m) (home (hash j)) (hash j % 2 ^ home (hash j)) ≡ Live fs m) × (e ≡ home (hash j)) × (hash k % 2 ^ e ≡ hash j % 2 ^ home (hash j))) ⊎ ((update2 s.slot e (hash k % 2 ^ e) (Live fs m) (home (hash j)) (hash j % 2 ^ home (hash j)) ≡ s.slot (home (hash j)) (hash j % 2 ^ home (hash j))) × (e ≡ home (hash j) → hash k % 2 ^ e ≡ hash j % 2 ^ home (hash j) → ⊥))
      place j = update2_cases s.slot e (hash k % 2 ^ e) (Live fs m) (home (hash j)) (hash j % 2 ^ home (hash j))

  wipes_change : (home : ℕ → ℕ) (s : State K V F) (p wiped e i : ℕ) (f : Frame K) (fs : List (Frame K)) (es : List (Entry K V)) (n : ℕ) → Enabled cmp hash gives s p (Wipes wiped e i f fs es n) → Tables cmp hash home s
      → Change s.trace (Wipe p f.table f.index) (number_at cmp hash gives home s) (number_at cmp hash gives home (next_state cmp hash gives s p (Wipes wiped e i f fs es n))) (writes_at cmp hash gives home s) (writes_at cmp hash gives home (next_state cmp hash gives s p (Wipes wiped e i f fs es n)))
  wipes_change home s p wiped e i f fs es n can t = record {
    grows = λ j. grind (arith, place j, can.1);
    limit = λ j l. grind (arith, place j, can.1, l);
    kept = λ j h. grind (arith, place j, can.1, h, eq-eqb);
    new = λ j h. grind (arith, place j, can.1, h, eqb-true, homes cmp total hash lawful gives home s f.table f.index es n (hash j) t can.1);
  }
    where
      place : (j : K) → ((update2 s.slot f.table f.index (Live [] n) (home (hash j)) (hash j % 2 ^ home (hash j)) ≡ Live [] n) × (f.table ≡ home (hash j)) × (f.index ≡ hash j % 2 ^ home (hash j))) ⊎ ((update2 s.slot f.table f.index (Live [] n) (home (hash j)) (hash j % 2 ^ home (hash j)) ≡ s.slot (home (hash j)) (hash j % 2 ^ home (hash j))) × (f.table ≡ home (hash j) → f.index ≡ hash j % 2 ^ home (hash j) → ⊥))
      place j = update2_cases s.slot f.table f.index (Live [] n) (home (hash j)) (hash j % 2 ^ home (hash j))

  -- MORE
  opens_change : (home : ℕ → ℕ) (s : State K V F) (p e : ℕ) → Enabled cmp hash gives s p (Opens e) → Tables cmp hash home s
      → Change s.trace (label cmp hash gives p (Opens e)) (number_at cmp hash gives home s) (number_at cmp hash gives (λ _. e) (next_state cmp hash gives s p (Opens e))) (writes_at cmp hash gives home s) (writes_at cmp hash gives (λ _. e) (next_state cmp hash gives s p (Opens e)))
  opens_change home s p e can t = record {
    grows = λ j. grind (arith, t.no_table, can.3, lt-ltb, eq-eqb e e refl, mod_below (hash j) (2 ^ e) (pow_pos e));
    limit = λ j l. grind (arith, t.no_table, can.3, lt-ltb, eq-eqb e e refl, mod_below (hash j) (2 ^ e) (pow_pos e));
    kept = λ j h. grind (arith, t.no_table, can.3, lt-ltb, eq-eqb e e refl, mod_below (hash j) (2 ^ e) (pow_pos e));
    new = λ j h. absurd (grind (arith, h));
  }

  -- a class goes with its number into the half of its hash
  moved_number : (home : ℕ → ℕ) (s : State K V F) (p : ℕ) (a : Claim) (i : ℕ) (es : List (Entry K V)) (n : ℕ) → Enabled cmp hash gives s p (Moves a i es n) → Tables cmp hash home s → (j : K)
      → (number_at cmp hash gives (home_after {K = K} {V = V} {F = F} home (Moves a i es n)) (next_state cmp hash gives s p (Moves a i es n)) j ≡ number_at cmp hash gives home s j)
      × (writes_at cmp hash gives (home_after {K = K} {V = V} {F = F} home (Moves a i es n)) (next_state cmp hash gives s p (Moves a i es n)) j ≡ writes_at cmp hash gives home s j)
  moved_number home s p a i es n can t j = go (hash j % 2 ^ a.table == i) refl
    where
      l : s.slot a.table i ≡ Live es n
      l = can.3

      lt : i < 2 ^ a.table
      lt = grind (arith, l, t.outside a.table i)

      to : ℕ → ℕ → Slot K V
      to = (next_state cmp hash gives s p (Moves a i es n)).slot

      there : hash j % 2 ^ a.table ≡ i → s.slot (home (hash j)) (hash j % 2 ^ home (hash j)) ≡ Live es n
      there h = grind (arith, l, h, homes cmp total hash lawful gives home s a.table i es n (hash j) t l h)

      same_slot : (hash j % 2 ^ a.table ≡ i → ⊥) → (next_state cmp hash gives s p (Moves a i es n)).slot (home (hash j)) (hash j % 2 ^ home (hash j)) ≡ s.slot (home (hash j)) (hash j % 2 ^ home (hash j))
      same_slot ne = grind (arith, ne, eqb-true, and_parts, in_low_half (hash j) a.table i lt, in_high_half (hash j) a.table i lt)

      half_slot : hash j % 2 ^ a.table ≡ i → ((next_state cmp hash gives s p (Moves a i es n)).slot (suc a.table) (hash j % 2 ^ suc a.table) ≡ Live (half hash (suc a.table) (hash j % 2 ^ suc a.table) es) n)
      half_slot h = by_half (in_a_half (hash j) a.table i h)
        where
          by_half : (hash j % 2 ^ suc a.table ≡ i) ⊎ (hash j % 2 ^ suc a.table ≡ i + 2 ^ a.table) → (next_state cmp hash gives s p (Moves a i es n)).slot (suc a.table) (hash j % 2 ^ suc a.table) ≡ Live (half hash (suc a.table) (hash j % 2 ^ suc a.table) es) n
          by_half (inl g) = rw g (grind (arith, eqb-true, eq-eqb, and_parts, and_from, pow_pos a.table))
          by_half (inr g) = rw g (grind (arith, eqb-true, eq-eqb, and_parts, and_from, pow_pos a.table))

      go : (b : Bool) → (hash j % 2 ^ a.table == i) ≡ b → (number_in cmp ((next_state cmp hash gives s p (Moves a i es n)).slot (cond b (suc a.table) (home (hash j))) (hash j % 2 ^ cond b (suc a.table) (home (hash j)))) j ≡ number_at cmp hash gives home s j)
          × (writes_in ((next_state cmp hash gives s p (Moves a i es n)).slot (cond b (suc a.table) (home (hash j))) (hash j % 2 ^ cond b (suc a.table) (home (hash j)))) ≡ writes_at cmp hash gives home s j)
      go true e = let h : hash j % 2 ^ a.table ≡ i = eqb-true _ _ e in
          (ap (λ v. number_in cmp v j) (half_slot h) ∙ number-half (suc a.table) (hash j % 2 ^ suc a.table) es j refl ∙ sym (ap (λ v. number_in cmp v j) (there h)), ap writes_in (half_slot h) ∙ sym (ap writes_in (there h)))
      go false e = (ap (λ v. number_in cmp v j) (same_slot (eqb-false _ _ e)), ap writes_in (same_slot (eqb-false _ _ e)))

  same_change : (t : Trace K V F) (l : Label K V F) (number number' : K → Option ℕ) (writes writes' : K → ℕ) → ((k : K) → (number' k ≡ number k) × (writes' k ≡ writes k)) → ((k : K) → touches cmp hash gives t l k ≡ false) → Change t l number number' writes writes'
  same_change t l number number' writes writes' h z = record { grows = λ k. (omega (arith, (h k).1), omega (arith, (h k).1)); limit = λ k l. omega (arith, l, (h k).1); kept = λ k _. (h k).0; new = λ k y. absurd (grind (arith, y, z k)) }

  change : (home : ℕ → ℕ) (s : State K V F) (p : ℕ) (l : Transition K V F) → Enabled cmp hash gives s p l → IsParty s p → Tables cmp hash home s
      → Change s.trace (label cmp hash gives p l) (number_at cmp hash gives home s) (number_at cmp hash gives (home_after home l) (next_state cmp hash gives s p l)) (writes_at cmp hash gives home s) (writes_at cmp hash gives (home_after home l) (next_state cmp hash gives s p l))
  change home s p (Opens e) can o t = opens_change home s p e can t
  change home s p (DecidesEmpty c r) can o t = record { grows = λ k. (omega arith, omega arith); limit = λ k l. l; kept = λ k _. refl; new = λ k _. inl (grind (arith, t.no_table can.2)) }
  change home s p (Decides c k e es n r fs m) can o t = decides_change home s p c k e es n r fs m can o t
  change home s p (Moves a i es n) can o t = same_change s.trace (MovedBin a.table i) (number_at cmp hash gives home s) (number_at cmp hash gives (home_after {K = K} {V = V} {F = F} home (Moves a i es n)) (next_state cmp hash gives s p (Moves a i es n))) (writes_at cmp hash gives home s) (writes_at cmp hash gives (home_after {K = K} {V = V} {F = F} home (Moves a i es n)) (next_state cmp hash gives s p (Moves a i es n))) (moved_number home s p a i es n can t) (λ _. refl)
  change home s p (Wipes wiped e i f fs es n) can o t = wipes_change home s p wiped e i f fs es n can t
  change home s p l can o t = record { grows = λ k. (omega arith, omega arith); limit = λ k l. l; kept = λ k _. refl; new = λ k h. absurd (grind (arith, h)) }

  -- JUDGED
  judge_step : (t : Trace K V F) (l : Label K V F) (number number' : K → Option ℕ) (writes writes' : K → ℕ) (b : Bool) (z : Seen K V) → Change t l number number' writes writes' → writes z.key ≤ 2 ^ 64 - 1
      → JudgesRead cmp hash gives b z (number z.key) (writes z.key) → JudgesRead cmp hash gives (not (touches cmp hash gives t l z.key) && b) z (number' z.key) (writes' z.key)
  judge_step t l number number' writes writes' b z ch top j = record {
    known = omega (arith, j.known, (ch.grows z.key).0);
    same_number = λ h. grind (arith, h, and_parts, ch.kept z.key, j.same_number);
    new_number = λ h. go (touches cmp hash gives t l z.key) refl h;
  }
    where
      raised : (bump (writes z.key) ≡ writes z.key + 1) ⊎ (bump (writes z.key) ≡ 2 ^ 64 - 1) → number' z.key ≡ Some (bump (writes z.key)) → (newer (number' z.key) z.number ≡ true) ⊎ (number' z.key ≡ Some (2 ^ 64 - 1))
      raised (inl e) n = inl (rw n (lt-ltb z.number (bump (writes z.key)) (omega (arith, e, j.known))))
      raised (inr e) n = inr (n ∙ ap Some e)

      fresh : (number' z.key ≡ None) ⊎ ((number' z.key ≡ Some (writes' z.key)) × (writes' z.key ≡ bump (writes z.key))) → (newer (number' z.key) z.number ≡ true) ⊎ (number' z.key ≡ Some (2 ^ 64 - 1))
      fresh (inl n) = inl (rw n refl)
      fresh (inr n) = raised (bump_new (writes z.key) top) (n.0 ∙ ap Some n.1)

      go : (u : Bool) → touches cmp hash gives t l z.key ≡ u → (not u && b) ≡ false → (newer (number' z.key) z.number ≡ true) ⊎ (number' z.key ≡ Some (2 ^ 64 - 1))
      go true e h = fresh (ch.new z.key e)
      go false e h = rw (ch.kept z.key e) (j.new_number h)

  reads_seen : (home : ℕ → ℕ) (s : State K V F) (p e i : ℕ) (f : Frame K) (fs : List (Frame K)) (es : List (Entry K V)) (n : ℕ) (x : Entry K V) → Enabled cmp hash gives s p (Reads e i f fs es n x) → Tables cmp hash home s → (w : ℕ) (z : Seen K V) → update s.seen p (Some (record { key = x.key; value = x.value; number = x.number })) w ≡ Some z
      → ((s.seen w ≡ Some z) × ((p == w) ≡ false)) ⊎ (((p == w) ≡ true) × (number_at cmp hash gives home s z.key ≡ Some z.number))
  reads_seen home s p e i f fs es n x can t w z h = go (p == w) refl h
    where
      asc : IsAscending cmp hash es × InRegion hash f.table f.index es
      asc = t.ascending f.table f.index es n can.1

      place : hash x.key % 2 ^ f.table ≡ f.index
      place = region-first_past cmp total hash lawful f.bound es x f.table f.index asc.1 can.2

      number : number_at cmp hash gives home s x.key ≡ Some x.number
      number = ap (λ v. number_in cmp v x.key) (let q : s.slot (home (hash x.key)) (hash x.key % 2 ^ home (hash x.key)) ≡ Live es n = grind (arith, can.1, place, homes cmp total hash lawful gives home s f.table f.index es n (hash x.key) t can.1 place) in q) ∙ number-first_past f.bound es x asc.0 can.2

      go : (b : Bool) → (p == w) ≡ b → cond b (Some (record { key = x.key; value = x.value; number = x.number })) (s.seen w) ≡ Some z → ((s.seen w ≡ Some z) × ((p == w) ≡ false)) ⊎ (((p == w) ≡ true) × (number_at cmp hash gives home s z.key ≡ Some z.number))
      go true e g = inr (e, subst (λ (z : Seen K V). number_at cmp hash gives home s z.key ≡ Some z.number) (same_some g) number)
      go false e g = inl (g, e)

  reads_touch : (t : Trace K V F) (l : Label K V F) (w : ℕ) (k : K) → Legal.reads cmp hash gives w l ≡ true → touches cmp hash gives t l k ≡ false
  reads_touch t (Decide q r) w k h = absurd (grind (arith, h))
  reads_touch t (Wipe q e i) w k h = absurd (grind (arith, h))
  reads_touch t l w k h = refl

  begins_touch : (t : Trace K V F) (l : Label K V F) (w : ℕ) (k : K) → begins w l ≡ true → touches cmp hash gives t l k ≡ false
  begins_touch t (Decide q r) w k h = absurd (grind (arith, h))
  begins_touch t (Wipe q e i) w k h = absurd (grind (arith, h))
  begins_touch t l w k h = refl

  judge_same : (t : Trace K V F) (l : Label K V F) (number number' : K → Option ℕ) (writes writes' : K → ℕ) (b : Bool) (z : Seen K V) → Change t l number number' writes writes' → touches cmp hash gives t l z.key ≡ false
      → JudgesRead cmp hash gives b z (number z.key) (writes z.key) → JudgesRead cmp hash gives b z (number' z.key) (writes' z.key)
  judge_same t l number number' writes writes' b z ch u j = record {
    known = omega (arith, j.known, (ch.grows z.key).0);
    same_number = λ h. ch.kept z.key u ∙ j.same_number h;
    new_number = λ h. rw (ch.kept z.key u) (j.new_number h);
  }

  -- a last read is as before, or just read
  seen_after : (home : ℕ → ℕ) (s : State K V F) (p : ℕ) (l : Transition K V F) → Enabled cmp hash gives s p l → Tables cmp hash home s → (w : ℕ) (z : Seen K V) → (next_state cmp hash gives s p l).seen w ≡ Some z
      → ((s.seen w ≡ Some z) × (Legal.reads cmp hash gives w (label cmp hash gives p l) ≡ false)) ⊎ ((Legal.reads cmp hash gives w (label cmp hash gives p l) ≡ true) × (number_at cmp hash gives home s z.key ≡ Some z.number))
  seen_after home s p (Begins c y) can t w z h = inl (grind (arith, h, eqb-true), refl)
  seen_after home s p (Reads e i f fs es n x) can t w z h = reads_seen home s p e i f fs es n x can t w z h
  seen_after home s p l can t w z h = inl (h, refl)

  pub numbers_ok : (home : ℕ → ℕ) (s : State K V F) (p : ℕ) (l : Transition K V F) → Enabled cmp hash gives s p l → IsParty s p → Tables cmp hash home s → WriteNumbers cmp hash gives home s → WriteNumbers cmp hash gives (home_after home l) (next_state cmp hash gives s p l)
  numbers_ok home s p l can o t v = record {
    bounded = λ k m h. grind (arith, h, v.bounded k, ch.grows k, ch.kept k, ch.new k, cases_Bool (touches cmp hash gives s.trace (label cmp hash gives p l) k));
    limit = λ k. ch.limit k (v.limit k);
    small = λ k. omega (arith, v.small k, (ch.grows k).1);
    fresh = λ w z h. see w z (seen_after home s p l can t w z h);
    pending = λ q w z h g. wait q w z (begun_after cmp hash gives s p l can q w z h g);
  }
    where
      ch : Change s.trace (label cmp hash gives p l) (number_at cmp hash gives home s) (number_at cmp hash gives (home_after home l) (next_state cmp hash gives s p l)) (writes_at cmp hash gives home s) (writes_at cmp hash gives (home_after home l) (next_state cmp hash gives s p l))
      ch = change home s p l can o t

      see : (w : ℕ) (z : Seen K V) → ((s.seen w ≡ Some z) × (Legal.reads cmp hash gives w (label cmp hash gives p l) ≡ false)) ⊎ ((Legal.reads cmp hash gives w (label cmp hash gives p l) ≡ true) × (number_at cmp hash gives home s z.key ≡ Some z.number))
          → JudgesRead cmp hash gives (Legal.reads cmp hash gives w (label cmp hash gives p l) || (not (touches cmp hash gives s.trace (label cmp hash gives p l) z.key) && is_untouched cmp hash gives s.trace w z.key)) z (number_at cmp hash gives (home_after home l) (next_state cmp hash gives s p l) z.key) (writes_at cmp hash gives (home_after home l) (next_state cmp hash gives s p l) z.key)
      see w z (inl h) = rw h.1 (judge_step s.trace (label cmp hash gives p l) (number_at cmp hash gives home s) (number_at cmp hash gives (home_after home l) (next_state cmp hash gives s p l)) (writes_at cmp hash gives home s) (writes_at cmp hash gives (home_after home l) (next_state cmp hash gives s p l)) (is_untouched cmp hash gives s.trace w z.key) z ch (v.limit z.key) (v.fresh w z h.0))
      see w z (inr h) = rw h.0 (judge_same s.trace (label cmp hash gives p l) (number_at cmp hash gives home s) (number_at cmp hash gives (home_after home l) (next_state cmp hash gives s p l)) (writes_at cmp hash gives home s) (writes_at cmp hash gives (home_after home l) (next_state cmp hash gives s p l)) true z ch (reads_touch s.trace (label cmp hash gives p l) w z.key h.0) (record { known = v.bounded z.key z.number h.1; same_number = λ _. h.1; new_number = λ e. absurd (grind (arith, e)) }))

      wait : (q w : ℕ) (z : Seen K V) → ((s.began_from q ≡ Some w) × (s.call q ≡ Some (RemoveSeen z)) × (begins q (label cmp hash gives p l) ≡ false)) ⊎ ((begins q (label cmp hash gives p l) ≡ true) × (s.seen w ≡ Some z))
          → JudgesRead cmp hash gives (if begins q (label cmp hash gives p l) then is_untouched cmp hash gives s.trace w z.key else not (touches cmp hash gives s.trace (label cmp hash gives p l) z.key) && untouched_for cmp hash gives s.trace q w z.key) z (number_at cmp hash gives (home_after home l) (next_state cmp hash gives s p l) z.key) (writes_at cmp hash gives (home_after home l) (next_state cmp hash gives s p l) z.key)
      wait q w z (inl h) = rw h.2 (judge_step s.trace (label cmp hash gives p l) (number_at cmp hash gives home s) (number_at cmp hash gives (home_after home l) (next_state cmp hash gives s p l)) (writes_at cmp hash gives home s) (writes_at cmp hash gives (home_after home l) (next_state cmp hash gives s p l)) (untouched_for cmp hash gives s.trace q w z.key) z ch (v.limit z.key) (v.pending q w z h.0 h.1))
      wait q w z (inr h) = rw h.0 (judge_same s.trace (label cmp hash gives p l) (number_at cmp hash gives home s) (number_at cmp hash gives (home_after home l) (next_state cmp hash gives s p l)) (writes_at cmp hash gives home s) (writes_at cmp hash gives (home_after home l) (next_state cmp hash gives s p l)) (is_untouched cmp hash gives s.trace w z.key) z ch (begins_touch s.trace (label cmp hash gives p l) q z.key h.0) (v.fresh w z h.1))

  -- REMOVALS
  -- what is removed bears the number that was read, so nothing has touched it
  only_untouched : (b : Bool) (z : Seen K V) (number : Option ℕ) (writes : ℕ) → JudgesRead cmp hash gives b z number writes → has_number number z.number ≡ true → b ≡ true
  only_untouched true z number writes j h = refl
  only_untouched false z number writes j h = absurd (go number h (j.new_number refl))
    where
      go : (number : Option ℕ) → has_number number z.number ≡ true → (newer number z.number ≡ true) ⊎ (number ≡ Some (2 ^ 64 - 1)) → ⊥
      go None h n = grind (arith, h)
      go (Some m) h (inl n) = omega (arith, ltb-true z.number m n, eqb-true m z.number (and_parts (m == z.number) (nat_lt z.number (2 ^ 64 - 1)) h).0)
      go (Some m) h (inr n) = omega (arith, same_some n, eqb-true m z.number (and_parts (m == z.number) (nat_lt z.number (2 ^ 64 - 1)) h).0, ltb-true z.number (2 ^ 64 - 1) (and_parts (m == z.number) (nat_lt z.number (2 ^ 64 - 1)) h).1)

  -- what nothing has touched bears the number that was read, which is below the greatest in a short run
  untouched_removed : (b : Bool) (z : Seen K V) (number : Option ℕ) (writes : ℕ) → writes < 2 ^ 64 - 1 → JudgesRead cmp hash gives b z number writes → b ≡ true → has_number number z.number ≡ true
  untouched_removed b z number writes l j h = rw (j.same_number h) (grind (arith, j.known, l, eq-eqb, lt-ltb))

  removal : (home : ℕ → ℕ) (s : State K V F) (p : ℕ) (c : Call K V F) (k : K) (e : ℕ) (es : List (Entry K V)) (n : ℕ) (r : KeptReply K V) (fs : List (Entry K V)) (m w : ℕ) → Enabled cmp hash gives s p (Decides c k e es n r fs m) → IsParty s p → Tables cmp hash home s → Origins s → WriteNumbers cmp hash gives home s
      → s.began_from p ≡ Some w → (x : K × V) × (read_before s.trace p w ≡ Some x) × (removes cmp hash gives r ≡ true → untouched_for cmp hash gives s.trace p w x.0 ≡ true) × (length s.trace < MAX_LABELS → untouched_for cmp hash gives s.trace p w x.0 ≡ true → removes cmp hash gives r ≡ true)
  removal home s p c k e es n r fs m w can o t u v b =
      let z : (z : Seen K V) × (s.call p ≡ Some (RemoveSeen z)) = u.origin p w b in
      let is : c ≡ RemoveSeen z.0 = same_some (sym can.0 ∙ z.1) in
      let kz : Some z.0.key ≡ Some k = subst (λ c. key_of c ≡ Some k) is can.1 in
      let here : number_at cmp hash gives home s z.0.key ≡ number_of cmp es z.0.key = ap (λ v. number_in cmp v z.0.key) (subst (λ k. s.slot (home (hash k)) (hash k % 2 ^ home (hash k)) ≡ Live es n) (sym (same_some kz)) (let q : s.slot (home (hash k)) (hash k % 2 ^ home (hash k)) ≡ Live es n = grind (arith, can.4, homes cmp total hash lawful gives home s e (hash k % 2 ^ e) es n (hash k) t can.4 refl) in q)) in
      let found : removes cmp hash gives r ≡ has_number (number_at cmp hash gives home s z.0.key) z.0.number = can.5.conditional z.0 is ∙ ap (λ u. has_number u z.0.number) (sym here) in
      let judged : JudgesRead cmp hash gives (untouched_for cmp hash gives s.trace p w z.0.key) z.0 (number_at cmp hash gives home s z.0.key) (writes_at cmp hash gives home s z.0.key) = v.pending p w z.0 b z.1 in (
        pair_seen z.0,
        u.before p w z.0 b z.1,
        λ h. only_untouched (untouched_for cmp hash gives s.trace p w z.0.key) z.0 (number_at cmp hash gives home s z.0.key) (writes_at cmp hash gives home s z.0.key) judged (sym found ∙ h),
        λ short h. found ∙ untouched_removed (untouched_for cmp hash gives s.trace p w z.0.key) z.0 (number_at cmp hash gives home s z.0.key) (writes_at cmp hash gives home s z.0.key) (omega (arith, v.small z.0.key, short)) judged h,
      )

  empty_removal : (home : ℕ → ℕ) (s : State K V F) (p : ℕ) (c : Call K V F) (r : KeptReply K V) (w : ℕ) → Enabled cmp hash gives s p (DecidesEmpty c r) → IsParty s p → Tables cmp hash home s → Origins s → WriteNumbers cmp hash gives home s
      → s.began_from p ≡ Some w → (x : K × V) × (read_before s.trace p w ≡ Some x) × (removes cmp hash gives r ≡ true → untouched_for cmp hash gives s.trace p w x.0 ≡ true) × (length s.trace < MAX_LABELS → untouched_for cmp hash gives s.trace p w x.0 ≡ true → removes cmp hash gives r ≡ true)
  empty_removal home s p c r w can o t u v b =
      let z : (z : Seen K V) × (s.call p ≡ Some (RemoveSeen z)) = u.origin p w b in
      let is : c ≡ RemoveSeen z.0 = same_some (sym can.0 ∙ z.1) in
      let none : number_at cmp hash gives home s z.0.key ≡ None = ap (λ v. number_in cmp v z.0.key) (t.no_table can.2 (home (hash z.0.key)) (hash z.0.key % 2 ^ home (hash z.0.key))) in
      let found : removes cmp hash gives r ≡ false = nothing_removed z.0 r (subst (λ c. Allows cmp gives c [] r) is can.4) in
      (pair_seen z.0, u.before p w z.0 b z.1, λ h. absurd (grind (arith, found, h)), λ short h. absurd (grind (arith, none, (v.pending p w z.0 b z.1).same_number h)))
    where
      nothing_removed : (z : Seen K V) (r : KeptReply K V) → Allows cmp gives (RemoveSeen z) [] r → removes cmp hash gives r ≡ false
      nothing_removed z r (inl h) = ap (removes cmp hash gives) h
      nothing_removed z r (inr h) = ap (removes cmp hash gives) h

  if_began : (b : Option ℕ) (P : ℕ → Type 0) → ((w : ℕ) → b ≡ Some w → P w) → IfSome b P
  if_began None P h = tt
  if_began (Some w) P h = h w refl

  -- what begins from a walk is the removal of the pair that the walk read last
  begins_removal : (s : State K V F) (p : ℕ) (c : Call K V F) (y : Option ℕ) → Enabled cmp hash gives s p (Begins c y) → Origins s → RemovalMay cmp hash gives (update s.began_from p y) s.trace (Begin p c)
  begins_removal s p c y can u = subst (λ b. IfSome b (λ w. (x : K × V) × (last_read s.trace w ≡ Some x) × RemovesPair x c)) (sym (place_here s.began_from p y))
      (if_began y (λ w. (x : K × V) × (last_read s.trace w ≡ Some x) × RemovesPair x c) (λ w h. (pair_seen (can.1 w h).0, u.last w ∙ ap (option_map pair_seen) (can.1 w h).1, subst (RemovesPair (pair_seen (can.1 w h).0)) (sym (can.1 w h).2) refl)))

  removal_lawful : (home : ℕ → ℕ) (s : State K V F) (p : ℕ) (l : Transition K V F) → Enabled cmp hash gives s p l → IsParty s p → Tables cmp hash home s → Origins s → WriteNumbers cmp hash gives home s → RemovalMay cmp hash gives (next_state cmp hash gives s p l).began_from s.trace (label cmp hash gives p l)
  removal_lawful home s p (Begins c y) can o t u v = begins_removal s p c y can u
  removal_lawful home s p (DecidesEmpty c r) can o t u v = if_began (s.began_from p) (λ w. (x : K × V) × (read_before s.trace p w ≡ Some x) × (removes cmp hash gives r ≡ true → untouched_for cmp hash gives s.trace p w x.0 ≡ true) × (length s.trace < MAX_LABELS → untouched_for cmp hash gives s.trace p w x.0 ≡ true → removes cmp hash gives r ≡ true)) (λ w b. empty_removal home s p c r w can o t u v b)
  removal_lawful home s p (Decides c k e es n r fs m) can o t u v = if_began (s.began_from p) (λ w. (x : K × V) × (read_before s.trace p w ≡ Some x) × (removes cmp hash gives r ≡ true → untouched_for cmp hash gives s.trace p w x.0 ≡ true) × (length s.trace < MAX_LABELS → untouched_for cmp hash gives s.trace p w x.0 ≡ true → removes cmp hash gives r ≡ true)) (λ w b. removal home s p c k e es n r fs m w can o t u v b)
  removal_lawful home s p l can o t u v = tt

  -- a party without a decision can begin from any walk
  other_origin : (from : ℕ → Option ℕ) (p : ℕ) (y : Option ℕ) (t : Trace K V F) → call_begun_by t p ≡ None → decision t p ≡ None → EachMay (RemovalMay cmp hash gives from) t → EachMay (RemovalMay cmp hash gives (update from p y)) t
  other_origin from p y [] b d h = tt
  other_origin from p y (Begin q c ∷ t) b d h = (subst (λ o. IfSome o (λ w. (x : K × V) × (last_read t w ≡ Some x) × RemovesPair x c)) (sym (place_other from p q y (λ e. grind (arith, b, eq-eqb q p e)))) h.0, other_origin from p y t (grind (arith, b)) d h.1)
  other_origin from p y (Decide q r ∷ t) b d h = (subst (λ o. IfSome o (λ w. (x : K × V) × (read_before t q w ≡ Some x) × (removes cmp hash gives r ≡ true → untouched_for cmp hash gives t q w x.0 ≡ true) × (length t < MAX_LABELS → untouched_for cmp hash gives t q w x.0 ≡ true → removes cmp hash gives r ≡ true))) (sym (place_other from p q y (λ e. grind (arith, d, eq-eqb q p e)))) h.0, other_origin from p y t b (grind (arith, d)) h.1)
  other_origin from p y (l ∷ t) b d h = (tt, other_origin from p y t b d h.1)

  -- KEPT
  pub removals_ok : (home : ℕ → ℕ) (s : State K V F) (p : ℕ) (l : Transition K V F) → Enabled cmp hash gives s p l → IsParty s p → Tables cmp hash home s → Origins s → WriteNumbers cmp hash gives home s
      → EachMay (RemovalMay cmp hash gives s.began_from) s.trace → EachMay (RemovalMay cmp hash gives (next_state cmp hash gives s p l).began_from) (label cmp hash gives p l ∷ s.trace)
  removals_ok home s p (Begins c y) can o t u v h = let k : s.parties ≤ p = omega (arith, can.0) in (removal_lawful home s p (Begins c y) can o t u v, other_origin s.began_from p y s.trace (o.call ∙ (o.beyond k).0) (o.beyond k).3 h)
  removals_ok home s p l can o t u v h = (removal_lawful home s p l can o t u v, h)
