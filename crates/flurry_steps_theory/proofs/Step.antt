-- A step keeps all of it.
use Rattle.std.specs.Prelude.{length, ℕ, suc, ◌-◌, ◌%◌, ◌^◌, ◌<◌, ◌≤◌, Bool, true, false, List, [], ◌∷◌, Option, Some, None, is_some, if◌then◌else◌, ◌≡◌, ◌⊎◌}
use Rattle.std.specs.declared.cmp.Ordering.{Ordering}
use Rattle.std.specs.Cmp.{IsTotalOrder}
use Rattle.std.proofs.Common.{arith, refl, sym, ◌∙◌, ap, subst, inl, inr}
use Rattle.std.proofs.lemmas.Bool.{eqb-true, eq-eqb, and_parts, lt-ltb}
use Rattle.flurry_base.specs.OneKey.{key_of}
use Rattle.flurry_steps_theory.specs.Map.{Pairs, same, Allows}
use Rattle.flurry_steps_theory.specs.Trace.{names, pairs}
use Rattle.flurry_steps_theory.specs.Bin.{pairs_of}
use Rattle.flurry_steps_theory.specs.Machine.{State, Transition, Enabled, next_state, label, halves, Moved, Locating, Looking, Walking, Clearing, Done, Begins, Counts, Finds, Opens, FindsNothing, IsRefused, DecidesEmpty, Passes, Decides, Publishes, Reads, Leaves, Splits, Wipes, SplitsClear, Replies, Ends}
use Rattle.flurry_steps_theory.specs.Invariant.{IsParty, Tables, home_after, Progress, Remains, IsPartition, NamesNoUnborn, Waits, Inv, WriteNumbers, new_world, CanAll, after_all}
use Rattle.flurry_steps_theory.proofs.Bins.{Allows-same}
use Rattle.flurry_steps_theory.proofs.Tables.{same_some, growth_ended}
use Rattle.flurry_steps_theory.proofs.Ranges.{told_moved}
use Rattle.flurry_steps_theory.specs.Legal.{HasRead, HasLacked, WalkMay, ClearMay}
use Rattle.flurry_base.specs.declared.call.Call.{Call}
use Rattle.flurry_base.specs.declared.call.Call.TheVariants.{Reserve, Clear, Walk}
use Rattle.flurry_base.specs.declared.reply.KeptReply.{KeptReply}
use Rattle.flurry_base.specs.declared.verdict.Verdict.{Verdict}
use Rattle.flurry_steps_theory.specs.declared.Label.TheVariants.{Decide, Refused, End, Opened, Silent, Reply as Replied}
use Rattle.flurry_steps_theory.proofs.Calls.{party_ok}
use Rattle.flurry_steps_theory.proofs.Tables.{tables_ok, new_tables}
use Rattle.flurry_steps_theory.proofs.Ranges.{cut_ok, idle_cut}
use Rattle.flurry_steps_theory.proofs.Growth.{AllowsNow, grown_ok, growth_lawful, calls_lawful}
use Rattle.flurry_steps_theory.proofs.Origins.{origins_ok}
use Rattle.flurry_steps_theory.proofs.WriteNumbers.{numbers_ok, removals_ok}
use Rattle.flurry_steps_theory.proofs.Walks.{read_back, not_begun, missing_now, stays_not_missing, advance, keeps, finishes, neither, finds, rest_split, rest_joined, split_frames, bin_content, reads, read_lawful, leaves, wipes}
use Rattle.flurry_steps_theory.proofs.Refusals.{refused_now}
use Rattle.flurry_steps_theory.proofs.NoUnbornBin.{named_ok}
use Rattle.flurry_steps_theory.proofs.Lookups.{waits_ok, looks_up, steps_ok}
use Rattle.flurry_steps_theory.proofs.Counts.{counted_ok}
use Rattle.flurry_steps_theory.proofs.Settled.{progress_settled}
use Rattle.flurry_steps_theory.proofs.OwnSteps.{next_mode, next_call, other_keeps, if_settled, own_or_other, names_own}
use Rattle.flurry_base.specs.declared.sizes.TheConstants.{MAX_TABLE}

module _ {K V F : Type 0} (cmp : K → K → Ordering) (total : IsTotalOrder cmp) (hash : K → ℕ) (lawful : (j k : K) → same cmp j k ≡ true → hash j ≡ hash k) (gives : F → K → Option V → Verdict V → Type 0) where
  no_key : (c : Call K V F) (k : K) (w : Call K V F) → key_of w ≡ None → key_of c ≡ Some k → (call : Option (Call K V F)) → call ≡ Some c → call ≡ Some w → ⊥
  no_key c k w n h call e f = grind (arith, sym (subst (λ c. key_of c ≡ Some k) (same_some (sym e ∙ f)) h) ∙ n)

  -- its own step
  own : (home : ℕ → ℕ) (s : State K V F) (p : ℕ) (l : Transition K V F) → Enabled cmp hash gives s p l → IsParty s p → Tables cmp hash home s → Progress cmp hash gives (s.call p) (s.mode p) s.trace p → Progress cmp hash gives (next_call cmp total hash lawful gives s p l) (next_mode cmp total hash lawful gives s p l) (label cmp hash gives p l ∷ s.trace) p
  unfolding next_mode next_call
  own home s p (Begins c w) can o t g = record { unbegun = λ h. absurd (grind (arith, h)); seen = λ _ _ k. inr (inr tt); unread = λ _ _ k _ h. g.unbegun (o.beyond (omega (arith, can.0))).0 k h; cleared = λ _ _ k. inr tt; frames = tt }
  own home s p (Counts whose) can o t g = if_settled (λ m. Progress cmp hash gives (s.call p) m (Silent p ∷ s.trace) p) (progress_settled cmp hash gives (s.call p) (Silent p ∷ s.trace) p) (whose p) (s.mode p) (keeps cmp hash gives (s.call p) (s.mode p) s.trace (Silent p) p refl (λ k h. h) g)
  own home s p (Finds e) can o t g = finds cmp hash gives (s.call p) s.trace (Silent p) p e refl (λ k h. h) (subst (λ m. Progress cmp hash gives (s.call p) m s.trace p) can.2 g)
  own home s p (Opens e) can o t g = finds cmp hash gives (s.call p) s.trace (Opened e) p e refl (λ k h. h) (subst (λ m. Progress cmp hash gives (s.call p) m s.trace p) can.2 g)
  own home s p FindsNothing can o t g = advance cmp hash gives (s.call p) Locating (Done None 0 0) s.trace (Silent p) p refl (λ k h. h) (λ h. grind (arith, h)) (λ _ k _. inr (inl (missing_now cmp hash gives (λ _. true) s.trace (Silent p) p k refl refl (t.empty can.3 k)))) (λ _ k _. inl (missing_now cmp hash gives (names p) s.trace (Silent p) p k refl (eq-eqb p p refl) (t.empty can.3 k))) (λ k r. absurd r) tt (subst (λ m. Progress cmp hash gives (s.call p) m s.trace p) can.2 g)
  own home s p IsRefused can o t g = finishes cmp hash gives (s.call p) (s.mode p) s.trace (Refused p) p (λ k h. h) g
  own home s p (DecidesEmpty c r) can o t g = neither cmp hash gives (s.call p) (s.mode p) (Done (Some r) 0 0) s.trace (Decide p r) p (λ k h. h) (λ h. subst (λ c. Allows cmp gives c [] r) (same_some (sym can.0 ∙ h)) can.4) (λ h. subst (λ c. Allows cmp gives c [] r) (same_some (sym can.0 ∙ h)) can.4) tt g
  own home s p (Passes e) can o t g = neither cmp hash gives (s.call p) (s.mode p) (Looking (suc e)) s.trace (Silent p) p (λ k h. h) (no_key can.0 can.1 Walk refl can.3 (s.call p) can.2) (no_key can.0 can.1 Clear refl can.3 (s.call p) can.2) tt g
  own home s p (Decides c k e es n r fs m) can o t g = neither cmp hash gives (s.call p) (s.mode p) (Done (Some r) (length fs - length es) (length es - length fs)) s.trace (Decide p r) p (λ k h. h) (no_key c k Walk refl can.1 (s.call p) can.0) (no_key c k Clear refl can.1 (s.call p) can.0) tt g
  own home s p (Reads e i f fs es n x) can o t g = reads cmp total hash lawful gives home s p e i f fs es n x can t (o.walking e i (f ∷ fs) can.0) (subst (λ m. Progress cmp hash gives (s.call p) m s.trace p) can.0 g)
  own home s p (Leaves e i f fs es n) can o t g = leaves cmp total hash lawful gives home s p e i f fs es n can t (o.walking e i (f ∷ fs) can.0) (subst (λ m. Progress cmp hash gives (s.call p) m s.trace p) can.0 g)
  own home s p (Splits e i f fs) can o t g = let lt : f.index < 2 ^ f.table = grind (arith, can.1, t.outside f.table f.index) in let m : Progress cmp hash gives (s.call p) (Walking e i (f ∷ fs)) s.trace p = (subst (λ m. Progress cmp hash gives (s.call p) m s.trace p) can.0 g) in advance cmp hash gives (s.call p) (Walking e i (f ∷ fs)) (Walking e i (halves f fs)) s.trace (Silent p) p refl (λ k h. h) (λ h. grind (arith, h)) (λ _ k r. inr (inr (rest_split cmp hash gives e i f fs k r))) (λ h. absurd (grind (arith, h, o.walking e i (f ∷ fs) can.0))) (λ k r. rest_joined cmp hash gives e i f fs k lt r) (split_frames cmp hash gives e i f fs lt m.frames) m
  own home s p (Wipes wiped e i f fs es n) can o t g = wipes cmp total hash lawful gives home s p wiped e i f fs es n can (o.clearing wiped e i (f ∷ fs) can.0) (subst (λ m. Progress cmp hash gives (s.call p) m s.trace p) can.0 g)
  own home s p (SplitsClear wiped e i f fs) can o t g = let lt : f.index < 2 ^ f.table = grind (arith, can.1, t.outside f.table f.index) in let m : Progress cmp hash gives (s.call p) (Clearing wiped e i (f ∷ fs)) s.trace p = (subst (λ m. Progress cmp hash gives (s.call p) m s.trace p) can.0 g) in advance cmp hash gives (s.call p) (Clearing wiped e i (f ∷ fs)) (Clearing wiped e i (halves f fs)) s.trace (Silent p) p refl (λ k h. h) (λ h. grind (arith, h)) (λ h. absurd (grind (arith, h, o.clearing wiped e i (f ∷ fs) can.0))) (λ _ k r. inr (rest_split cmp hash gives e i f fs k r)) (λ k r. rest_joined cmp hash gives e i f fs k lt r) (split_frames cmp hash gives e i f fs lt m.frames) m
  own home s p (Replies r) can o t g = finishes cmp hash gives (s.call p) (s.mode p) s.trace (Replied p r) p (λ k h. h) g
  own home s p Ends can o t g = finishes cmp hash gives (s.call p) (s.mode p) s.trace (End p) p (λ k h. h) g
  own home s p l can o t g = keeps cmp hash gives (s.call p) (s.mode p) s.trace (label cmp hash gives p l) p refl (λ k h. h) g

  pub progress_ok : (home : ℕ → ℕ) (s : State K V F) (p q : ℕ) (l : Transition K V F) → Enabled cmp hash gives s p l → IsParty s p → Tables cmp hash home s → ((q : ℕ) → Progress cmp hash gives (s.call q) (s.mode q) s.trace q)
      → Progress cmp hash gives ((next_state cmp hash gives s p l).call q) ((next_state cmp hash gives s p l).mode q) (label cmp hash gives p l ∷ s.trace) q
  progress_ok home s p q l can o t g = own_or_other cmp total hash lawful gives (λ q c m. Progress cmp hash gives c m (label cmp hash gives p l ∷ s.trace) q) s p q l (own home s p l can o t (g p))
      (λ ne. let n : names q (label cmp hash gives p l) ≡ false = names_own cmp total hash lawful gives p q l ne in
      other_keeps cmp total hash lawful gives (λ m. Progress cmp hash gives (s.call q) m (label cmp hash gives p l ∷ s.trace) q) (progress_settled cmp hash gives (s.call q) (label cmp hash gives p l ∷ s.trace) q) l q (s.mode q)
      (keeps cmp hash gives (s.call q) (s.mode q) s.trace (label cmp hash gives p l) q (not_begun cmp hash gives (label cmp hash gives p l) q n) (λ k h. read_back cmp hash gives s.trace (label cmp hash gives p l) q k n h) (g q)))

  -- a walk that ends has read all that stayed
  end_lawful : (s : State K V F) (p : ℕ) → Enabled cmp hash gives s p Ends → IsParty s p → Progress cmp hash gives (s.call p) (s.mode p) s.trace p → WalkMay cmp hash gives s.trace (End p)
  end_lawful s p can o g w k st = go (g.seen (sym o.call ∙ w.1 ∙ ap Some w.2) (λ h. grind (arith, h, can.3)) k)
    where
      none : Remains cmp hash gives (s.mode p) k → ⊥
      none r = subst (λ m. Remains cmp hash gives m k) can.3 r

      go : HasRead cmp hash gives s.trace p k ⊎ (HasLacked cmp hash gives (λ _. true) s.trace p k ⊎ Remains cmp hash gives (s.mode p) k) → HasRead cmp hash gives s.trace p k
      go (inl h) = h
      go (inr (inl h)) = absurd (stays_not_missing cmp hash gives (λ _. true) s.trace p k st h)
      go (inr (inr h)) = absurd (none h)

  clear_lawful : (s : State K V F) (p : ℕ) → Enabled cmp hash gives s p Ends → IsParty s p → Progress cmp hash gives (s.call p) (s.mode p) s.trace p → ClearMay cmp hash gives s.trace (End p)
  clear_lawful s p can o g w k = go (g.cleared (sym o.call ∙ w.1 ∙ ap Some w.2) (λ h. grind (arith, h, can.3)) k)
    where
      none : Remains cmp hash gives (s.mode p) k → ⊥
      none r = subst (λ m. Remains cmp hash gives m k) can.3 r

      go : HasLacked cmp hash gives (names p) s.trace p k ⊎ Remains cmp hash gives (s.mode p) k → HasLacked cmp hash gives (names p) s.trace p k
      go (inl h) = h
      go (inr h) = absurd (none h)

  walks_lawful : (home : ℕ → ℕ) (s : State K V F) (p : ℕ) (l : Transition K V F) → Enabled cmp hash gives s p l → IsParty s p → Tables cmp hash home s → Progress cmp hash gives (s.call p) (s.mode p) s.trace p → WalkMay cmp hash gives s.trace (label cmp hash gives p l)
  walks_lawful home s p (Reads e i f fs es n x) can o t g = read_lawful cmp total hash lawful gives home s p e i f fs es n x can t (o.walking e i (f ∷ fs) can.0) (subst (λ m. Progress cmp hash gives (s.call p) m s.trace p) can.0 g)
  walks_lawful home s p Ends can o t g = end_lawful s p can o g
  walks_lawful home s p l can o t g = tt

  clears_lawful : (s : State K V F) (p : ℕ) (l : Transition K V F) → Enabled cmp hash gives s p l → IsParty s p → Progress cmp hash gives (s.call p) (s.mode p) s.trace p → ClearMay cmp hash gives s.trace (label cmp hash gives p l)
  clears_lawful s p Ends can o g = clear_lawful s p can o g
  clears_lawful s p l can o g = tt

  -- ALL OF IT
  one_key_allows : (c : Call K V F) (m : Pairs K V) (r : KeptReply K V) → Allows cmp gives c m r → (k : K) × (key_of c ≡ Some k)
  one_key_allows (Reserve n) m r h = absurd h
  one_key_allows Clear m r h = absurd h
  one_key_allows Walk m r h = absurd h
  one_key_allows c m r h = (_, refl)

  allows_now : (home : ℕ → ℕ) (s : State K V F) (p : ℕ) (l : Transition K V F) → Enabled cmp hash gives s p l → IsParty s p → Tables cmp hash home s → AllowsNow cmp hash gives s p l
  allows_now home s p IsRefused can o t = refused_now cmp total hash lawful gives home s p can o t
  allows_now home s p (DecidesEmpty c r) can o t = let k : (k : K) × (key_of c ≡ Some k) = one_key_allows c [] r can.4 in Allows-same cmp total gives c r [] (pairs cmp hash s.trace) k.0 k.1 (sym (t.empty can.2 k.0)) can.4
  allows_now home s p (Decides c k e es n r fs m) can o t = Allows-same cmp total gives c r (pairs_of es) (pairs cmp hash s.trace) k can.1 (bin_content cmp total hash lawful gives home s e (hash k % 2 ^ e) es n k t can.4 refl) can.5.allowed
  allows_now home s p l can o t = tt

  -- a growth that ends has moved every bin
  ready : (s : State K V F) (p : ℕ) (l : Transition K V F) → Enabled cmp hash gives s p l → ((q : ℕ) → IsParty s q) → IsPartition s → (e : ℕ) → growth_ended cmp total hash lawful gives l ≡ Some e → (s.published ≡ Some e) × ((i : ℕ) → i < 2 ^ e → s.slot e i ≡ Moved)
  ready s p (Publishes d g) can o u e h = subst (λ e. (s.published ≡ Some e) × ((i : ℕ) → i < 2 ^ e → s.slot e i ≡ Moved)) (same_some h) (can.1, told_moved cmp hash gives s p d g can o u)
  ready s p l can o u e h = absurd (grind (arith, h))

  -- a step of the machine keeps the whole
  pub inv_step : (first : Option ℕ) (home : ℕ → ℕ) (s : State K V F) (p : ℕ) (l : Transition K V F) → Enabled cmp hash gives s p l → Inv cmp hash gives first home s → Inv cmp hash gives first (home_after home l) (next_state cmp hash gives s p l)
  inv_step first home s p l can v = record {
    parties = parties;
    tables = tables;
    cut = cut;
    grown = grown_ok cmp hash gives first s p l can v.cut v.grown;
    progress = λ q. progress_ok home s p q l can (v.parties p) v.tables v.progress;
    counted = counted_ok cmp total hash lawful gives home s p l can (v.parties p) v.tables tables v.counted;
    named = named;
    waits = waits;
    lookups = λ q. looks_up cmp total hash lawful gives (home_after home l) (next_state cmp hash gives s p l) q (parties q) tables cut (named q) (waits q);
    few_steps = λ q. steps_ok cmp total hash lawful gives s p q l v.few_steps;
    legal = record {
      calls = (calls_lawful cmp hash gives s p l can (v.parties p) (allows_now home s p l can (v.parties p) v.tables), v.legal.calls);
      walks = (walks_lawful home s p l can (v.parties p) v.tables (v.progress p), v.legal.walks);
      clears = (clears_lawful s p l can (v.parties p) (v.progress p), v.legal.clears);
      growths = (growth_lawful cmp hash gives first home s p l can v.parties v.tables v.cut v.grown, v.legal.growths);
    };
    origins = origins_ok cmp hash gives s p l can (v.parties p) v.origins;
    numbers = numbers_ok cmp total hash lawful gives home s p l can (v.parties p) v.tables v.numbers;
    removals = removals_ok cmp total hash lawful gives home s p l can (v.parties p) v.tables v.origins v.numbers v.removals;
  }
    where
      parties : (q : ℕ) → IsParty (next_state cmp hash gives s p l) q
      parties = λ q. party_ok cmp total hash lawful gives s p q l can (v.parties p) (v.parties q)

      tables : Tables cmp hash (home_after home l) (next_state cmp hash gives s p l)
      tables = tables_ok cmp total hash lawful gives home s p l can (v.parties p) (ready s p l can v.parties v.cut) v.tables

      cut : IsPartition (next_state cmp hash gives s p l)
      cut = cut_ok cmp hash gives home s p l can v.parties v.tables v.cut

      named : (q : ℕ) → NamesNoUnborn hash (is_some (next_state cmp hash gives s p l).published) (home_after home l) (next_state cmp hash gives s p l).start ((next_state cmp hash gives s p l).call q) ((next_state cmp hash gives s p l).mode q)
      named = λ q. named_ok cmp total hash lawful gives home s p q l can v.tables v.named

      waits : (q : ℕ) → Waits ((next_state cmp hash gives s p l).call q) ((next_state cmp hash gives s p l).mode q) ((next_state cmp hash gives s p l).steps q)
      waits = λ q. waits_ok cmp total hash lawful gives s p q l can (v.parties p) v.waits

  -- a new world
  new_cut : (e : ℕ) (b : Bool) → e ≤ MAX_TABLE → IsPartition (new_world {K = K} {V = V} {F = F} e b)
  new_cut e b l = idle_cut cmp hash gives _ refl (λ _. refl) (λ _. refl) (λ f h. grind (arith, h, l)) (λ f d j h m. grind (arith, h, m, eqb-true, and_parts)) (λ d j h l. grind (arith, h, l, lt-ltb, eq-eqb))

  new_numbers : (e : ℕ) (b : Bool) → WriteNumbers cmp hash gives (λ _. e) (new_world {K = K} {V = V} {F = F} e b)
  new_numbers e b = record {
    bounded = λ k m h. absurd (grind (arith, h));
    limit = λ k. grind (arith);
    small = λ k. grind (arith);
    fresh = λ w z h. absurd (grind (arith, h));
    pending = λ p w z h. absurd (grind (arith, h));
  }

  pub inv_new : (e : ℕ) (b : Bool) → e ≤ MAX_TABLE → Inv cmp hash gives (if b then Some e else None) (λ _. e) (new_world e b)
  inv_new e b l = record {
    parties = λ p. record { call = refl; beyond = λ _. (refl, refl, refl, refl, refl, refl, refl); going = λ h. absurd (h refl); no_decision = λ _ _. refl; decided = λ r a b h. absurd (grind (arith, h)); looking = λ d h. absurd (grind (arith, h)); end_label = λ _ h. absurd (grind (arith, h)); walking = λ d i fs h. absurd (grind (arith, h)); reply_decision = λ h. absurd (grind (arith, h)); refused = λ h. absurd (grind (arith, h)); clearing = λ n d i fs h. absurd (grind (arith, h)) };
    tables = new_tables cmp total hash lawful gives e b;
    cut = new_cut e b l;
    grown = record { number = refl; placed_next = λ d g h y. absurd (grind (arith, y)); unplaced = λ _ d. refl; unplaced_idle = λ d j _ _ _. refl; unplaced_above = λ d j _ _. refl };
    progress = λ p. record { unbegun = λ _ k h. h; seen = λ h. absurd (grind (arith, h)); unread = λ h. absurd (grind (arith, h)); cleared = λ h. absurd (grind (arith, h)); frames = tt };
    counted = record { unique = tt; balance = refl; size_bound = omega arith; debt_bound = omega arith };
    named = λ _. tt;
    waits = λ p h. absurd (grind (arith, h));
    lookups = λ p. record { in_time = λ h. absurd (grind (arith, h)); replies_next = λ h. absurd (grind (arith, h)) };
    few_steps = λ _. omega arith;
    legal = record { calls = tt; walks = tt; clears = tt; growths = tt };
    origins = record { unread = λ _ _. refl; last = λ _. refl; origin = λ p w h. absurd (grind (arith, h)); before = λ p w z h. absurd (grind (arith, h)) };
    numbers = new_numbers e b;
    removals = tt;
  }

  -- any run from a new world
  pub inv_after : (e : ℕ) (b : Bool) → e ≤ MAX_TABLE → (steps : List (ℕ × Transition K V F)) → CanAll cmp hash gives (new_world e b) steps → (home : ℕ → ℕ) × Inv cmp hash gives (if b then Some e else None) home (after_all cmp hash gives (new_world e b) steps)
  inv_after e b l [] can = (λ _. e, inv_new e b l)
  inv_after e b l (x ∷ steps) can = let more : (home : ℕ → ℕ) × Inv cmp hash gives (if b then Some e else None) home (after_all cmp hash gives (new_world e b) steps) = inv_after e b l steps can.1 in
      (home_after more.0 x.1, inv_step (if b then Some e else None) more.0 (after_all cmp hash gives (new_world e b) steps) x.0 x.1 can.0 more.1)
