-- How many pairs the map has.
use Rattle.std.specs.Prelude.{ℕ, suc, ◌≤◌, ◌+◌, ◌%◌, ◌^◌, Bool, true, false, not, cond, List, [], ◌∷◌, length, filter, unwrap_or, Some, None, option_map, is_some, if◌then◌else◌, ◌≡◌}
use Rattle.std.specs.declared.cmp.Ordering.{Ordering}
use Rattle.std.specs.Cmp.{IsTotalOrder}
use Rattle.std.proofs.Common.{arith, refl, sym, ◌∙◌}
use Rattle.std.proofs.lemmas.Grind.{common_steps}
use Rattle.std.proofs.lemmas.Bool.{eqb-true, eqb-false, cond-true}
use Rattle.std.proofs.lemmas.List.Filters.{length-filter_both}
use Rattle.flurry_steps_theory.specs.Map.{Pairs, Unique, same, find, without, put, write, after}
use Rattle.flurry_steps_theory.specs.Trace.{in_region}
use Rattle.flurry_steps_theory.specs.Bin.{Entry, pairs_of, IsAscending, InRegion}
use Rattle.flurry_steps_theory.proofs.Bins.{one_class, find-class, find-without, absent_below, absent_elsewhere}
use Rattle.flurry_base.specs.declared.call.Call.{Call}
use Rattle.flurry_base.specs.declared.call.Call.TheVariants.{Insert, TryInsert, Compute, Alter, Remove, RemoveEntry, RemoveSeen}
use Rattle.flurry_base.specs.declared.reply.KeptReply.{KeptReply}
use Rattle.flurry_base.specs.declared.reply.KeptReply.TheVariants.{Value, Pair, New, Changed}

module _ {K V : Type 0} (cmp : K → K → Ordering) (total : IsTotalOrder cmp) where
  none-filter : (p : K × V → Bool) (m : Pairs K V) (k : K) → find cmp m k ≡ None → find cmp (filter p m) k ≡ None
  none-filter p [] k h = refl
  none-filter p (x ∷ m) k h = grind (arith, common_steps, h, none-filter p m k)

  pub unique-filter : (p : K × V → Bool) (m : Pairs K V) → Unique cmp m → Unique cmp (filter p m)
  unique-filter p [] u = tt
  unique-filter p (x ∷ m) u = go (unique-filter p m u.1) (p x) refl
    where
      go : Unique cmp (filter p m) → (b : Bool) → p x ≡ b → Unique cmp (filter p (x ∷ m))
      go more true e = rw e (none-filter p m x.0 u.0, more)
      go more false e = rw e more

  length-without : (m : Pairs K V) (k : K) → Unique cmp m → length (without cmp m k) + cond (is_some (find cmp m k)) 1 0 ≡ length m
  length-without [] k u = refl
  length-without (x ∷ m) k u = go (length-without m k u.1) (same cmp x.0 k) refl
    where
      go : length (without cmp m k) + cond (is_some (find cmp m k)) 1 0 ≡ length m → (b : Bool) → same cmp x.0 k ≡ b → length (without cmp (x ∷ m) k) + cond (is_some (find cmp (x ∷ m) k)) 1 0 ≡ length (x ∷ m)
      go more true e = grind (arith, e, more, u.0, find-class cmp total m x.0 k e)
      go more false e = grind (arith, e, more)

  -- maps with the same pair at each class are as long
  pub same_length : (m n : Pairs K V) → Unique cmp m → Unique cmp n → ((j : K) → find cmp m j ≡ find cmp n j) → length m ≡ length n
  same_length [] [] u v h = refl
  same_length [] (y ∷ n) u v h = absurd (grind (arith, h y.0, (one_class cmp total).refl y.0))
  same_length (x ∷ m) n u v h =
      let here : find cmp n x.0 ≡ Some x = grind (arith, h x.0, (one_class cmp total).refl x.0) in
      let more : length m ≡ length (without cmp n x.0) = same_length m (without cmp n x.0) u.1 (unique-filter (λ z. not (same cmp z.0 x.0)) n v) (λ j. rest j (same cmp x.0 j) refl) in
      grind (arith, more, here, length-without n x.0 v)
    where
      rest : (j : K) (b : Bool) → same cmp x.0 j ≡ b → find cmp m j ≡ find cmp (without cmp n x.0) j
      rest j true e = grind (arith, e, find-without cmp total n x.0 j, u.0, find-class cmp total m x.0 j e)
      rest j false e = grind (arith, e, find-without cmp total n x.0 j, h j)

  gone : (m : Pairs K V) (k j : K) → same cmp k j ≡ true → find cmp (without cmp m k) j ≡ None
  gone m k j e = find-without cmp total m k j ∙ cond-true (same cmp k j) None (find cmp m j) e

  unique-write : (m : Pairs K V) (k : K) (v : V) → Unique cmp m → Unique cmp (write cmp m k v)
  unique-write m k v u = (gone m k _ (grind (arith, (one_class cmp total).symm k (unwrap_or (option_map (λ x. x.0) (find cmp m k)) k), stored m k)), unique-filter (λ z. not (same cmp z.0 k)) m u)
    where
      stored : (m : Pairs K V) (k : K) → same cmp (unwrap_or (option_map (λ x. x.0) (find cmp m k)) k) k ≡ true
      stored [] k = (one_class cmp total).refl k
      stored (x ∷ m) k = grind (arith, stored m k)

  unique-put : (m : Pairs K V) (k : K) (v : V) → Unique cmp m → Unique cmp (put cmp m k v)
  unique-put m k v u = (gone m k k ((one_class cmp total).refl k), unique-filter (λ z. not (same cmp z.0 k)) m u)

  fewer-without : (m : Pairs K V) (k : K) → length (without cmp m k) ≤ length m
  fewer-without [] k = omega arith
  fewer-without (x ∷ m) k = grind (arith, fewer-without m k)

  -- a call adds one pair at most
  pub length-after : {F : Type 0} (c : Call K V F) (r : KeptReply K V) (m : Pairs K V) → length (after cmp c r m) ≤ suc (length m)
  length-after (Insert k v) r m = omega (arith, fewer-without m k)
  length-after (TryInsert k v) (New w) m = omega (arith, fewer-without m k)
  length-after (Compute k f) (Value None) m = omega (arith, fewer-without m k)
  length-after (Compute k f) (Value (Some w)) m = omega (arith, fewer-without m k)
  length-after (Alter k b f) (New w) m = omega (arith, fewer-without m k)
  length-after (Alter k b f) (Changed w o) m = omega (arith, fewer-without m k)
  length-after (Alter k b f) (Pair (Some x)) m = omega (arith, fewer-without m k)
  length-after (Remove k) r m = omega (arith, fewer-without m k)
  length-after (RemoveEntry k) r m = omega (arith, fewer-without m k)
  length-after (RemoveSeen s) (Value (Some w)) m = omega (arith, fewer-without m s.key)
  length-after c r m = omega arith

  pub unique-after : {F : Type 0} (c : Call K V F) (r : KeptReply K V) (m : Pairs K V) → Unique cmp m → Unique cmp (after cmp c r m)
  unique-after (Insert k v) r m u = unique-write m k v u
  unique-after (TryInsert k v) (New w) m u = unique-put m k v u
  unique-after (Compute k f) (Value None) m u = unique-filter (λ z. not (same cmp z.0 k)) m u
  unique-after (Compute k f) (Value (Some w)) m u = unique-write m k w u
  unique-after (Alter k b f) (New w) m u = unique-put m k w u
  unique-after (Alter k b f) (Changed w o) m u = unique-write m k w u
  unique-after (Alter k b f) (Pair (Some x)) m u = unique-filter (λ z. not (same cmp z.0 k)) m u
  unique-after (Remove k) r m u = unique-filter (λ z. not (same cmp z.0 k)) m u
  unique-after (RemoveEntry k) r m u = unique-filter (λ z. not (same cmp z.0 k)) m u
  unique-after (RemoveSeen s) (Value (Some w)) m u = unique-filter (λ z. not (same cmp z.0 s.key)) m u
  unique-after c r m u = u

module _ {K V : Type 0} (cmp : K → K → Ordering) (total : IsTotalOrder cmp) (hash : K → ℕ) (lawful : (j k : K) → same cmp j k ≡ true → hash j ≡ hash k) where
  unique-bin : (es : List (Entry K V)) → IsAscending cmp hash es → Unique cmp (pairs_of es)
  unique-bin [] a = tt
  unique-bin (x ∷ es) a = (absent_below cmp total hash lawful x.key es a.0, unique-bin es a.1)

  find-within : (b : Bool) (e i : ℕ) (m : Pairs K V) (k : K) → find cmp (filter (λ x. cond b (in_region e i (hash x.0)) (not (in_region e i (hash x.0)))) m) k ≡ (if cond b (in_region e i (hash k)) (not (in_region e i (hash k))) then find cmp m k else None)
  find-within b e i [] k = grind arith
  find-within true e i (x ∷ m) k = grind (arith, common_steps, find-within true e i m k, lawful x.0 k)
  find-within false e i (x ∷ m) k = grind (arith, common_steps, find-within false e i m k, lawful x.0 k)

  pub length-pairs : (es : List (Entry K V)) → length (pairs_of es) ≡ length es
  length-pairs [] = refl
  length-pairs (x ∷ es) = grind (arith, length-pairs es)

  -- where one bin's region alone changes, the map's length changes as the bin's
  pub balance : (e i : ℕ) (m n : Pairs K V) (es fs : List (Entry K V)) → Unique cmp m → Unique cmp n → IsAscending cmp hash es → IsAscending cmp hash fs → InRegion hash e i es → InRegion hash e i fs
      → ((j : K) → hash j % 2 ^ e ≡ i → find cmp (pairs_of es) j ≡ find cmp m j) → ((j : K) → hash j % 2 ^ e ≡ i → find cmp (pairs_of fs) j ≡ find cmp n j) → ((j : K) → (hash j % 2 ^ e ≡ i → ⊥) → find cmp m j ≡ find cmp n j)
      → length m + length fs ≡ length n + length es
  balance e i m n es fs u v a b p q g h o = omega (arith, length-pairs es, length-pairs fs, inside m es u a p g, inside n fs v b q h, outside, length-filter_both (λ x. in_region e i (hash x.0)) (λ x. not (in_region e i (hash x.0))) (λ _. refl) m, length-filter_both (λ x. in_region e i (hash x.0)) (λ x. not (in_region e i (hash x.0))) (λ _. refl) n)
    where
      inside : (m : Pairs K V) (es : List (Entry K V)) → Unique cmp m → IsAscending cmp hash es → InRegion hash e i es → ((j : K) → hash j % 2 ^ e ≡ i → find cmp (pairs_of es) j ≡ find cmp m j) → length (filter (λ x. in_region e i (hash x.0)) m) ≡ length (pairs_of es)
      inside m es u a p g = same_length cmp total (filter (λ x. in_region e i (hash x.0)) m) (pairs_of es) (unique-filter cmp total (λ x. in_region e i (hash x.0)) m u) (unique-bin es a)
          (λ j. find-within true e i m j ∙ there j (in_region e i (hash j)) refl)
        where
          there : (j : K) (b : Bool) → in_region e i (hash j) ≡ b → cond b (find cmp m j) None ≡ find cmp (pairs_of es) j
          there j true y = sym (g j (eqb-true _ _ y))
          there j false y = sym (absent_elsewhere cmp total hash lawful e i es j p (eqb-false _ _ y))

      outside : length (filter (λ x. not (in_region e i (hash x.0))) m) ≡ length (filter (λ x. not (in_region e i (hash x.0))) n)
      outside = same_length cmp total (filter (λ x. not (in_region e i (hash x.0))) m) (filter (λ x. not (in_region e i (hash x.0))) n) (unique-filter cmp total (λ x. not (in_region e i (hash x.0))) m u) (unique-filter cmp total (λ x. not (in_region e i (hash x.0))) n v)
          (λ j. find-within false e i m j ∙ there j (in_region e i (hash j)) refl ∙ sym (find-within false e i n j))
        where
          there : (j : K) (b : Bool) → in_region e i (hash j) ≡ b → cond (not b) (find cmp m j) None ≡ cond (not b) (find cmp n j) None
          there j true y = refl
          there j false y = o j (eqb-false _ _ y)
