-- The count and what the parties owe.
use Rattle.std.specs.Prelude.{length, ℕ, pos, neg_ℤ, ◌≤ℤ◌, zero, suc, Some, ◌+◌, ◌-◌, ◌%◌, ◌^◌, ◌<◌, ◌≤◌, cond, if◌then◌else◌, Bool, true, false, not, List, [], ◌∷◌, Option, None, ◌≡◌, ◌⊎◌}
use Rattle.std.specs.declared.cmp.Ordering.{Ordering}
use Rattle.std.specs.Cmp.{IsTotalOrder}
use Rattle.std.proofs.Common.{arith, refl, sym, ◌∙◌, ap, subst, inl, inr}
use Rattle.std.proofs.lemmas.Int.{ints}
use Rattle.std.proofs.lemmas.Bool.{eq-eqb, ne_eqb, cases_lt, cond-false, false_from_ne_true}
use Rattle.flurry_steps_theory.specs.Map.{Unique, same, find, after}
use Rattle.flurry_steps_theory.specs.Trace.{map_after_decision, in_region, pairs, at}
use Rattle.flurry_steps_theory.specs.Bin.{Entry}
use Rattle.flurry_steps_theory.specs.Machine.{RefusedAt, Mode, Locating, Looking, Walking, Clearing, Done, halves, onward, found_by, owes_added, owes_removed, mode_after_count, State, Transition, Enabled, next_state, update2, update, Live, Finished, Frame, Begins, Counts, Finds, Opens, FindsNothing, IsRefused, DecidesEmpty, Passes, Decides, Reads, Leaves, Splits, Wipes, SplitsClear, Replies, Ends}
use Rattle.flurry_steps_theory.specs.Machine.{total}
use Rattle.flurry_steps_theory.specs.Invariant.{IsParty, Tables, home_after, IsCounted}
use Rattle.flurry_steps_theory.proofs.Bins.{find-after_other, find-wiped}
use Rattle.flurry_steps_theory.proofs.Ranges.{place_here, place_other, total-change, total-same, total-zero}
use Rattle.flurry_steps_theory.proofs.Count.{length-after, unique-filter, unique-after, same_length, balance}
use Rattle.flurry_base.specs.declared.call.Call.{Call}
use Rattle.flurry_base.specs.declared.reply.KeptReply.{KeptReply}
use Rattle.flurry_base.specs.declared.verdict.Verdict.{Verdict}
use Rattle.flurry_steps_theory.specs.declared.Label.TheVariants.{Decide, Wipe}
use Rattle.flurry_steps_theory.proofs.Walks.{bin_content}
use Rattle.flurry_steps_theory.proofs.OwnSteps.{onward_is}
use Rattle.flurry_steps_theory.proofs.Refusals.{refused_at_work}
use Rattle.flurry_base.specs.declared.call.Call.TheVariants.{Clear}

-- what is owed after one party's mode was changed
placed_owed : {K V : Type 0} (owes : Mode K V → ℕ) (modes : ℕ → Mode K V) (p n : ℕ) (m : Mode K V) → p < n → total (λ q. owes (update modes p m q)) n + owes (modes p) ≡ total (λ q. owes (modes q)) n + owes m
placed_owed owes modes p n m l = omega (arith, total-change (λ q. owes (update modes p m q)) (λ q. owes (modes q)) p n l (λ q ne. ap owes (place_other modes p q m ne)), ap owes (place_here modes p m))

-- what the parties that pass a test owe, and what is owed once theirs is counted, are all that was owed
still_owed : {K V : Type 0} (owes : Mode K V → ℕ) (modes : ℕ → Mode K V) (whose : ℕ → Bool) (n : ℕ) → ((m : Mode K V) → owes (mode_after_count m) ≡ 0) → total (λ q. if whose q then owes (modes q) else 0) n + total (λ q. owes (cond (whose q) (mode_after_count (modes q)) (modes q))) n ≡ total (λ q. owes (modes q)) n
still_owed owes modes whose zero z = refl
still_owed {K = K} {V = V} owes modes whose (suc n) z = omega (arith, still_owed owes modes whose n z, one (whose n) (modes n))
  where
    one : (b : Bool) (m : Mode K V) → (if b then owes m else 0) + owes (cond b (mode_after_count m) m) ≡ owes m
    one true m = omega (arith, z m)
    one false m = omega arith

settled_added : {K V : Type 0} (m : Mode K V) → owes_added (mode_after_count m) ≡ 0
settled_added Locating = refl
settled_added m = refl

settled_removed : {K V : Type 0} (m : Mode K V) → owes_removed (mode_after_count m) ≡ 0
settled_removed Locating = refl
settled_removed m = refl

-- one more party, that owes nothing
begun_owed : {K V : Type 0} (owes : Mode K V → ℕ) (modes : ℕ → Mode K V) (n : ℕ) (m : Mode K V) → owes m ≡ 0 → total (λ q. owes (update modes n m q)) (suc n) ≡ total (λ q. owes (modes q)) n
begun_owed owes modes n m z = omega (arith, z, total-same (λ q. owes (update modes n m q)) (λ q. owes (modes q)) n (λ q l. ap owes (place_other modes n q m (λ e. omega (arith, e, l)))), ap owes (place_here modes n m))

module _ {K V F : Type 0} (cmp : K → K → Ordering) (total_order : IsTotalOrder cmp) (hash : K → ℕ) (lawful : (j k : K) → same cmp j k ≡ true → hash j ≡ hash k) (gives : F → K → Option V → Verdict V → Type 0) where
  known : (s : State K V F) (p : ℕ) → IsParty s p → (s.mode p ≡ Finished → ⊥) → p < s.parties
  known s p o h = go (cases_lt p s.parties)
    where
      go : (p < s.parties) ⊎ (s.parties ≤ p) → p < s.parties
      go (inl l) = l
      go (inr l) = absurd (h (o.beyond l).1)

  -- a table that is found leaves nothing owed
  found_owed : (call : Option (Call K V F)) (e : ℕ) → (owes_added (found_by cmp hash gives call e) ≡ 0) × (owes_removed (found_by cmp hash gives call e) ≡ 0)
  found_owed (Some Clear) e = (refl, refl)
  found_owed call e = (refl, refl)

  -- and so does a refusal
  refused_owed : (s : State K V F) (c : Call K V F) (m : Mode K V) → RefusedAt cmp hash gives s c m → (owes_added m ≡ 0) × (owes_removed m ≡ 0)
  refused_owed s c (Clearing wiped e i fs) h = absurd h
  refused_owed s c (Done None x y) h = (h.3, h.4)
  refused_owed s c (Done (Some r) x y) h = absurd h
  refused_owed s c Finished h = absurd h
  refused_owed s c m h = (refl, refl)

  -- where a party's mode changes, and the map with what it then owes
  moves_counted : (s z : State K V F) (p : ℕ) (m : Mode K V) → z.count ≡ s.count → z.parties ≡ s.parties → z.mode ≡ update s.mode p m → length z.trace ≡ suc (length s.trace) → IsParty s p → (s.mode p ≡ Finished → ⊥) → Unique cmp (pairs cmp hash z.trace)
      → length (pairs cmp hash z.trace) + owes_removed m + owes_added (s.mode p) ≡ length (pairs cmp hash s.trace) + owes_removed (s.mode p) + owes_added m
      → length (pairs cmp hash z.trace) + owes_removed m ≤ suc (length (pairs cmp hash s.trace) + owes_removed (s.mode p)) → IsCounted cmp hash s → IsCounted cmp hash z
  moves_counted s z p m c n mode longer o f unique same most v = record {
    unique = unique;
    balance = omega (arith, ints, v.balance, c, same, now owes_added, now owes_removed);
    size_bound = omega (arith, v.size_bound, longer, most, now owes_removed);
    debt_bound = omega (arith, v.debt_bound, longer, same, most, now owes_added);
  }
    where
      now : (owes : Mode K V → ℕ) → total (λ q. owes (z.mode q)) z.parties + owes (s.mode p) ≡ total (λ q. owes (s.mode q)) s.parties + owes m
      now owes = ap (λ i. total (λ q. owes (z.mode q)) i + owes (s.mode p)) n ∙ ap (λ modes. total (λ q. owes (modes q)) s.parties + owes (s.mode p)) mode ∙ placed_owed owes s.mode p s.parties m (known s p o f)

  -- and where neither does
  moves_on : (s z : State K V F) (p : ℕ) (m : Mode K V) → z.count ≡ s.count → z.parties ≡ s.parties → z.mode ≡ update s.mode p m → length z.trace ≡ suc (length s.trace) → pairs cmp hash z.trace ≡ pairs cmp hash s.trace → IsParty s p → (s.mode p ≡ Finished → ⊥)
      → owes_added m ≡ owes_added (s.mode p) → owes_removed m ≡ owes_removed (s.mode p) → IsCounted cmp hash s → IsCounted cmp hash z
  moves_on s z p m c n mode longer same o f a b v = moves_counted s z p m c n mode longer o f (subst (Unique cmp) (sym same) v.unique) (omega (arith, a, b, ap length same)) (omega (arith, b, ap length same)) v

  counts_counted : (s : State K V F) (p : ℕ) (whose : ℕ → Bool) → IsCounted cmp hash s → IsCounted cmp hash (next_state cmp hash gives s p (Counts whose))
  counts_counted s p whose v = record {
    unique = v.unique;
    balance = omega (arith, ints, v.balance, still_owed owes_added s.mode whose s.parties settled_added, still_owed owes_removed s.mode whose s.parties settled_removed);
    size_bound = omega (arith, v.size_bound, still_owed owes_removed s.mode whose s.parties settled_removed);
    debt_bound = omega (arith, v.debt_bound, still_owed owes_added s.mode whose s.parties settled_added);
  }

  begins_counted : (s : State K V F) (p : ℕ) (c : Call K V F) (y : Option ℕ) → Enabled cmp hash gives s p (Begins c y) → IsCounted cmp hash s → IsCounted cmp hash (next_state cmp hash gives s p (Begins c y))
  begins_counted s p c y can v = record {
    unique = v.unique;
    balance = omega (arith, ints, v.balance, begun_owed owes_added s.mode p Locating refl, begun_owed owes_removed s.mode p Locating refl, ap (total (λ q. owes_added (s.mode q))) can.0, ap (total (λ q. owes_removed (s.mode q))) can.0);
    size_bound = omega (arith, v.size_bound, begun_owed owes_added s.mode p Locating refl, begun_owed owes_removed s.mode p Locating refl, ap (total (λ q. owes_added (s.mode q))) can.0, ap (total (λ q. owes_removed (s.mode q))) can.0);
    debt_bound = omega (arith, v.debt_bound, begun_owed owes_added s.mode p Locating refl, begun_owed owes_removed s.mode p Locating refl, ap (total (λ q. owes_added (s.mode q))) can.0, ap (total (λ q. owes_removed (s.mode q))) can.0);
  }

  decides_counted : (home : ℕ → ℕ) (s : State K V F) (p : ℕ) (c : Call K V F) (k : K) (e : ℕ) (es : List (Entry K V)) (n : ℕ) (r : KeptReply K V) (fs : List (Entry K V)) (m : ℕ) → Enabled cmp hash gives s p (Decides c k e es n r fs m) → IsParty s p → Tables cmp hash home s → Tables cmp hash home (next_state cmp hash gives s p (Decides c k e es n r fs m)) → IsCounted cmp hash s → IsCounted cmp hash (next_state cmp hash gives s p (Decides c k e es n r fs m))
  decides_counted home s p c k e es n r fs m can o t t' v = moves_counted s _ p (Done (Some r) (length fs - length es) (length es - length fs)) refl refl refl refl o (λ h. grind (arith, h, can.2)) unique (omega (arith, moves, ap owes_added can.2, ap owes_removed can.2)) (omega (arith, one, moves, ap owes_removed can.2)) v
    where
      is : pairs cmp hash (Decide p r ∷ s.trace) ≡ after cmp c r (pairs cmp hash s.trace)
      is = ap (λ u. map_after_decision cmp hash u r (pairs cmp hash s.trace)) (o.call ∙ can.0)

      one : length (pairs cmp hash (Decide p r ∷ s.trace)) ≤ suc (length (pairs cmp hash s.trace))
      one = subst (λ m. length m ≤ suc (length (pairs cmp hash s.trace))) (sym is) (length-after cmp total_order c r (pairs cmp hash s.trace))

      unique : Unique cmp (pairs cmp hash (Decide p r ∷ s.trace))
      unique = subst (Unique cmp) (sym is) (unique-after cmp total_order c r (pairs cmp hash s.trace) v.unique)

      now : update2 s.slot e (hash k % 2 ^ e) (Live fs m) e (hash k % 2 ^ e) ≡ Live fs m
      now = grind (arith, eq-eqb e e refl, eq-eqb (hash k % 2 ^ e) (hash k % 2 ^ e) refl)

      moves : length (pairs cmp hash s.trace) + length fs ≡ length (pairs cmp hash (Decide p r ∷ s.trace)) + length es
      moves = balance cmp total_order hash lawful e (hash k % 2 ^ e) (pairs cmp hash s.trace) (pairs cmp hash (Decide p r ∷ s.trace)) es fs v.unique unique (t.ascending e (hash k % 2 ^ e) es n can.4).0 can.5.ascending (t.ascending e (hash k % 2 ^ e) es n can.4).1 can.6
          (λ j g. bin_content cmp total_order hash lawful gives home s e (hash k % 2 ^ e) es n j t can.4 g)
          (λ j g. bin_content cmp total_order hash lawful gives home (next_state cmp hash gives s p (Decides c k e es n r fs m)) e (hash k % 2 ^ e) fs m j t' now g)
          (λ j g. sym (ap (λ u. find cmp u j) is ∙ find-after_other cmp total_order c r (pairs cmp hash s.trace) k j can.1 (false_from_ne_true (same cmp k j) (λ y. g (ap (λ h. h % 2 ^ e) (sym (lawful k j y)))))))

  wipes_counted : (home : ℕ → ℕ) (s : State K V F) (p wiped e i : ℕ) (f : Frame K) (fs : List (Frame K)) (es : List (Entry K V)) (n : ℕ) → Enabled cmp hash gives s p (Wipes wiped e i f fs es n) → IsParty s p → Tables cmp hash home s → Tables cmp hash home (next_state cmp hash gives s p (Wipes wiped e i f fs es n)) → IsCounted cmp hash s → IsCounted cmp hash (next_state cmp hash gives s p (Wipes wiped e i f fs es n))
  wipes_counted home s p wiped e i f fs es n can o t t' v = moves_counted s _ p (onward (Clearing (wiped + length es)) (Done None 0 (wiped + length es)) e i fs) refl refl refl refl o (λ h. grind (arith, h, can.0)) unique (omega (arith, moves, owes, ap owes_added can.0, ap owes_removed can.0)) (omega (arith, moves, owes, ap owes_removed can.0)) v
    where
      owes : (owes_added {V = V} (onward (Clearing (wiped + length es)) (Done None 0 (wiped + length es)) e i fs) ≡ 0) × (owes_removed {V = V} (onward (Clearing (wiped + length es)) (Done None 0 (wiped + length es)) e i fs) ≡ wiped + length es)
      owes = onward_is {V = V} (λ m. (owes_added m ≡ 0) × (owes_removed m ≡ wiped + length es)) (Clearing (wiped + length es)) (Done None 0 (wiped + length es)) e i fs (λ _ _. (refl, refl)) (refl, refl)

      unique : Unique cmp (pairs cmp hash (Wipe p f.table f.index ∷ s.trace))
      unique = unique-filter cmp total_order (λ x. not (in_region f.table f.index (hash x.0))) (pairs cmp hash s.trace) v.unique

      now : update2 s.slot f.table f.index (Live [] n) f.table f.index ≡ Live [] n
      now = grind (arith, eq-eqb f.table f.table refl, eq-eqb f.index f.index refl)

      moves : length (pairs cmp hash s.trace) + 0 ≡ length (pairs cmp hash (Wipe p f.table f.index ∷ s.trace)) + length es
      moves = balance cmp total_order hash lawful f.table f.index (pairs cmp hash s.trace) (pairs cmp hash (Wipe p f.table f.index ∷ s.trace)) es [] v.unique unique (t.ascending f.table f.index es n can.1).0 tt (t.ascending f.table f.index es n can.1).1 tt
          (λ j g. bin_content cmp total_order hash lawful gives home s f.table f.index es n j t can.1 g)
          (λ j g. bin_content cmp total_order hash lawful gives home (next_state cmp hash gives s p (Wipes wiped e i f fs es n)) f.table f.index [] n j t' now g)
          (λ j g. sym (find-wiped cmp total_order hash lawful f.table f.index (pairs cmp hash s.trace) j ∙ cond-false (in_region f.table f.index (hash j)) None (at cmp hash s.trace j) (ne_eqb _ _ g)))

  empty_counted : (home : ℕ → ℕ) (s : State K V F) (p : ℕ) (c : Call K V F) (r : KeptReply K V) → Enabled cmp hash gives s p (DecidesEmpty c r) → IsParty s p → Tables cmp hash home s → Tables cmp hash home (next_state cmp hash gives s p (DecidesEmpty c r)) → IsCounted cmp hash s → IsCounted cmp hash (next_state cmp hash gives s p (DecidesEmpty c r))
  empty_counted home s p c r can o t t' v = moves_counted s _ p (Done (Some r) 0 0) refl refl refl refl o (λ h. grind (arith, h, can.1)) unique (omega (arith, none, none', ap owes_added can.1, ap owes_removed can.1)) (omega (arith, none')) v
    where
      none : length (pairs cmp hash s.trace) ≡ 0
      none = same_length cmp total_order (pairs cmp hash s.trace) [] v.unique tt (t.empty can.2)

      unique : Unique cmp (pairs cmp hash (Decide p r ∷ s.trace))
      unique = subst (Unique cmp) (sym (ap (λ u. map_after_decision cmp hash u r (pairs cmp hash s.trace)) (o.call ∙ can.0))) (unique-after cmp total_order c r (pairs cmp hash s.trace) v.unique)

      none' : length (pairs cmp hash (Decide p r ∷ s.trace)) ≡ 0
      none' = same_length cmp total_order (pairs cmp hash (Decide p r ∷ s.trace)) [] unique tt (t'.empty can.2)

  pub counted_ok : (home : ℕ → ℕ) (s : State K V F) (p : ℕ) (l : Transition K V F) → Enabled cmp hash gives s p l → IsParty s p → Tables cmp hash home s → Tables cmp hash (home_after home l) (next_state cmp hash gives s p l) → IsCounted cmp hash s → IsCounted cmp hash (next_state cmp hash gives s p l)
  counted_ok home s p (Begins c y) can o t u v = begins_counted s p c y can v
  counted_ok home s p (Counts whose) can o t u v = counts_counted s p whose v
  counted_ok home s p (Finds e) can o t u v = moves_on s _ p (found_by cmp hash gives (s.call p) e) refl refl refl refl refl o (λ h. grind (arith, h, can.2)) ((found_owed (s.call p) e).0 ∙ sym (ap owes_added can.2)) ((found_owed (s.call p) e).1 ∙ sym (ap owes_removed can.2)) v
  counted_ok home s p (Opens e) can o t u v = moves_on s _ p (found_by cmp hash gives (s.call p) e) refl refl refl refl refl o (λ h. grind (arith, h, can.2)) ((found_owed (s.call p) e).0 ∙ sym (ap owes_added can.2)) ((found_owed (s.call p) e).1 ∙ sym (ap owes_removed can.2)) v
  counted_ok home s p FindsNothing can o t u v = moves_on s _ p (Done None 0 0) refl refl refl refl refl o (λ h. grind (arith, h, can.2)) (sym (ap owes_added can.2)) (sym (ap owes_removed can.2)) v
  counted_ok home s p IsRefused can o t u v = moves_on s _ p Finished refl refl refl refl refl o (refused_at_work cmp hash gives s p can).0 (sym (refused_owed s can.0 (s.mode p) can.3).0) (sym (refused_owed s can.0 (s.mode p) can.3).1) v
  counted_ok home s p (DecidesEmpty c r) can o t u v = empty_counted home s p c r can o t u v
  counted_ok home s p (Passes e) can o t u v = moves_on s _ p (Looking (suc e)) refl refl refl refl refl o (λ h. grind (arith, h, can.4)) (sym (ap owes_added can.4)) (sym (ap owes_removed can.4)) v
  counted_ok home s p (Decides c k e es n r fs m) can o t u v = decides_counted home s p c k e es n r fs m can o t u v
  counted_ok home s p (Reads e i f fs es n x) can o t u v = moves_on s _ p (Walking e i (record { table = f.table; index = f.index; bound = Some x.key } ∷ fs)) refl refl refl refl refl o (λ h. grind (arith, h, can.0)) (sym (ap owes_added can.0)) (sym (ap owes_removed can.0)) v
  counted_ok home s p (Leaves e i f fs es n) can o t u v = moves_on s _ p (onward Walking (Done None 0 0) e i fs) refl refl refl refl refl o (λ h. grind (arith, h, can.0)) (onward_is {V = V} (λ m. owes_added m ≡ 0) Walking (Done None 0 0) e i fs (λ _ _. refl) refl ∙ sym (ap owes_added can.0)) (onward_is {V = V} (λ m. owes_removed m ≡ 0) Walking (Done None 0 0) e i fs (λ _ _. refl) refl ∙ sym (ap owes_removed can.0)) v
  counted_ok home s p (Splits e i f fs) can o t u v = moves_on s _ p (Walking e i (halves f fs)) refl refl refl refl refl o (λ h. grind (arith, h, can.0)) (sym (ap owes_added can.0)) (sym (ap owes_removed can.0)) v
  counted_ok home s p (Wipes wiped e i f fs es n) can o t u v = wipes_counted home s p wiped e i f fs es n can o t u v
  counted_ok home s p (SplitsClear wiped e i f fs) can o t u v = moves_on s _ p (Clearing wiped e i (halves f fs)) refl refl refl refl refl o (λ h. grind (arith, h, can.0)) (sym (ap owes_added can.0)) (sym (ap owes_removed can.0)) v
  counted_ok home s p (Replies r) can o t u v = moves_on s _ p Finished refl refl refl refl refl o (λ h. grind (arith, h, can.3)) (sym (ap owes_added can.3)) (sym (ap owes_removed can.3)) v
  counted_ok home s p Ends can o t u v = moves_on s _ p Finished refl refl refl refl refl o (λ h. grind (arith, h, can.3)) (sym (ap owes_added can.3)) (sym (ap owes_removed can.3)) v
  counted_ok home s p l can o t u v = record { unique = v.unique; balance = v.balance; size_bound = omega (arith, v.size_bound); debt_bound = omega (arith, v.debt_bound) }

  -- once every party is finished, nobody owes, and the count is the number of pairs
  pub nothing_owed : (s : State K V F) → IsCounted cmp hash s → ((p : ℕ) → p < s.parties → s.mode p ≡ Finished) → pos (length (pairs cmp hash s.trace)) ≡ s.count
  nothing_owed s v f = omega (arith, ints, v.balance, none owes_added (λ p l. ap owes_added (f p l)), none owes_removed (λ p l. ap owes_removed (f p l)))
    where
      none : (owes : Mode K V → ℕ) → ((p : ℕ) → p < s.parties → owes (s.mode p) ≡ 0) → total (λ q. owes (s.mode q)) s.parties ≡ 0
      none owes h = total-same (λ q. owes (s.mode q)) (λ _. 0) s.parties h ∙ total-zero (λ _. 0) s.parties (λ _. refl)

  -- so the count stays within the number of labels
  pub count_within : (s : State K V F) → IsCounted cmp hash s → (s.count ≤ℤ pos (length s.trace)) × (neg_ℤ (pos (length s.trace)) ≤ℤ s.count)
  count_within s v = (omega (arith, ints, v.balance, v.size_bound), omega (arith, ints, v.balance, v.debt_bound))
