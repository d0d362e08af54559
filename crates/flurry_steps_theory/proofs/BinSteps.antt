-- The step of each call at a bin is the machine's.
use Rattle.std.specs.Prelude.{unwrap_or, ℕ, Bool, true, false, cond, List, [], ◌∷◌, Option, Some, None, option_map, is_some, MatchOption, ◌≡◌, ◌⊎◌}
use Rattle.std.specs.declared.cmp.Ordering.{Ordering}
use Rattle.std.specs.declared.cmp.Ordering.TheVariants.{Less, Equal, Greater}
use Rattle.std.specs.Ordering.{is_lt}
use Rattle.std.specs.Cmp.{IsTotalOrder}
use Rattle.std.proofs.Common.{arith, refl, sym, ◌∙◌, ap, inl, inr}
use Rattle.std.proofs.lemmas.Grind.{common_steps}
use Rattle.flurry_steps_theory.specs.Map.{Pairs, same, find, without, put, write, after, Allows}
use Rattle.flurry_steps_theory.specs.Bin.{place, rewrite, leave_out, write_entry, bin_after, number_of, bump, has_number, Entry, pairs_of, order, Above, IsAscending}
use Rattle.flurry_base.specs.declared.call.Call.{Call}
use Rattle.flurry_base.specs.declared.call.Call.TheVariants.{Insert, TryInsert, Compute, Alter, Remove, RemoveEntry, RemoveSeen}
use Rattle.flurry_base.specs.declared.reply.KeptReply.{KeptReply}
use Rattle.flurry_base.specs.declared.reply.KeptReply.TheVariants.{Value, Pair, New, Changed, Exists}
use Rattle.flurry_base.specs.declared.verdict.Verdict.{Verdict}
use Rattle.flurry_base.specs.declared.verdict.Verdict.TheVariants.{Keep, Set, Remove as Removed}
use Rattle.flurry_base.specs.OneKey.{key_of}
use Rattle.flurry_base.specs.Verdicts.{verdict_of, verdict_reply}
use Rattle.flurry_steps_theory.specs.Machine.{BinDid}
use Rattle.flurry_steps_theory.specs.Legal.{changes, removes}
use Rattle.flurry_base.specs.declared.call.Seen.{Seen}
use Rattle.flurry_steps_theory.proofs.Bins.{one_class, find-class, find-without, order_total, same-order, ordered}

module _ {K V : Type 0} (cmp : K → K → Ordering) (total : IsTotalOrder cmp) (hash : K → ℕ) (lawful : (j k : K) → same cmp j k ≡ true → hash j ≡ hash k) where
  -- a number where a pair is
  number-find : (es : List (Entry K V)) (k : K) → is_some (number_of cmp es k) ≡ is_some (find cmp (pairs_of es) k)
  number-find [] k = refl
  number-find (x ∷ es) k = grind (arith, number-find es k)

  find-place : (x : Entry K V) (es : List (Entry K V)) (j : K) → number_of cmp es x.key ≡ None → find cmp (pairs_of (place cmp hash x es)) j ≡ cond (same cmp x.key j) (Some (x.key, x.value)) (find cmp (pairs_of es) j)
  find-place x [] j h = grind (arith)
  find-place x (y ∷ es) j h = grind (arith, h, find-place x es j, (one_class cmp total).congr y.key x.key j, (one_class cmp total).congr x.key j y.key, (one_class cmp total).symm x.key y.key, (one_class cmp total).symm j y.key)

  number-place : (x : Entry K V) (es : List (Entry K V)) (j : K) → number_of cmp es x.key ≡ None → number_of cmp (place cmp hash x es) j ≡ cond (same cmp x.key j) (Some x.number) (number_of cmp es j)
  number-place x [] j h = grind (arith)
  number-place x (y ∷ es) j h = grind (arith, h, number-place x es j, (one_class cmp total).congr y.key x.key j, (one_class cmp total).congr x.key j y.key, (one_class cmp total).symm x.key y.key, (one_class cmp total).symm j y.key)

  above-place : (k : K) (x : Entry K V) (es : List (Entry K V)) → order cmp hash k x.key ≡ Less → Above cmp hash k es → Above cmp hash k (place cmp hash x es)
  above-place k x [] l a = (l, tt)
  above-place k x (y ∷ es) l a = go (above-place k x es l a.1) (is_lt (order cmp hash x.key y.key)) refl
    where
      go : Above cmp hash k (place cmp hash x es) → (b : Bool) → is_lt (order cmp hash x.key y.key) ≡ b → Above cmp hash k (place cmp hash x (y ∷ es))
      go more true e = rw e (l, (a.0, a.1))
      go more false e = rw e (a.0, more)

  trans_above : (j k : K) (es : List (Entry K V)) → order cmp hash j k ≡ Less → Above cmp hash k es → Above cmp hash j es
  trans_above j k [] h a = tt
  trans_above j k (x ∷ es) h a = ((order_total cmp total hash lawful).trans j k x.key h a.0, trans_above j k es h a.1)

  ascending-place : (x : Entry K V) (es : List (Entry K V)) → number_of cmp es x.key ≡ None → IsAscending cmp hash es → IsAscending cmp hash (place cmp hash x es)
  ascending-place x [] h a = (tt, tt)
  ascending-place x (y ∷ es) h a = go (λ g. ascending-place x es g a.1) (is_lt (order cmp hash x.key y.key)) refl
    where
      go : (number_of cmp es x.key ≡ None → IsAscending cmp hash (place cmp hash x es)) → (b : Bool) → is_lt (order cmp hash x.key y.key) ≡ b → IsAscending cmp hash (place cmp hash x (y ∷ es))
      go more true e = rw e (let l : order cmp hash x.key y.key ≡ Less = is_less _ e in ((l, trans_above x.key y.key es l a.0), a))
        where
          is_less : (o : Ordering) → is_lt o ≡ true → o ≡ Less
          is_less Less h = refl
          is_less Equal h = grind (arith, h)
          is_less Greater h = grind (arith, h)
      go more false e = rw e (above-place y.key x es (after_it (ordered cmp total hash lawful x.key y.key)) a.0, more (grind (arith, h)))
        where
          after_it : (order cmp hash x.key y.key ≡ Less) ⊎ ((order cmp hash x.key y.key ≡ Equal) ⊎ (order cmp hash y.key x.key ≡ Less)) → order cmp hash y.key x.key ≡ Less
          after_it (inl g) = grind (arith, g, e)
          after_it (inr (inl g)) = absurd (grind (arith, same-order cmp total hash lawful x.key y.key g, h, (one_class cmp total).symm x.key y.key))
          after_it (inr (inr g)) = g

  find-rewrite : (k : K) (v : V) (n : ℕ) (es : List (Entry K V)) (j : K) → find cmp (pairs_of (rewrite cmp hash k v n es)) j ≡ cond (same cmp k j) (option_map (λ x. (x.0, v)) (find cmp (pairs_of es) k)) (find cmp (pairs_of es) j)
  find-rewrite k v n [] j = grind arith
  find-rewrite k v n (x ∷ es) j = grind (arith, find-rewrite k v n es j, (one_class cmp total).congr x.key k j, (one_class cmp total).congr k j x.key, (one_class cmp total).symm x.key k, (one_class cmp total).symm x.key j, find-class cmp total (pairs_of es) k j)

  number-rewrite : (k : K) (v : V) (n : ℕ) (es : List (Entry K V)) (j : K) → number_of cmp (rewrite cmp hash k v n es) j ≡ cond (same cmp k j) (option_map (λ _. n) (number_of cmp es k)) (number_of cmp es j)
  number-rewrite k v n [] j = grind arith
  number-rewrite k v n (x ∷ es) j = grind (arith, number-rewrite k v n es j, (one_class cmp total).congr x.key k j, (one_class cmp total).congr k j x.key, (one_class cmp total).symm x.key k, (one_class cmp total).symm x.key j)

  above-rewrite : (i k : K) (v : V) (n : ℕ) (es : List (Entry K V)) → Above cmp hash i es → Above cmp hash i (rewrite cmp hash k v n es)
  above-rewrite i k v n [] a = tt
  above-rewrite i k v n (x ∷ es) a = go (above-rewrite i k v n es a.1) (same cmp x.key k) refl
    where
      go : Above cmp hash i (rewrite cmp hash k v n es) → (b : Bool) → same cmp x.key k ≡ b → Above cmp hash i (rewrite cmp hash k v n (x ∷ es))
      go more true e = rw e (a.0, a.1)
      go more false e = rw e (a.0, more)

  ascending-rewrite : (k : K) (v : V) (n : ℕ) (es : List (Entry K V)) → IsAscending cmp hash es → IsAscending cmp hash (rewrite cmp hash k v n es)
  ascending-rewrite k v n [] a = tt
  ascending-rewrite k v n (x ∷ es) a = go (ascending-rewrite k v n es a.1) (same cmp x.key k) refl
    where
      go : IsAscending cmp hash (rewrite cmp hash k v n es) → (b : Bool) → same cmp x.key k ≡ b → IsAscending cmp hash (rewrite cmp hash k v n (x ∷ es))
      go more true e = rw e (a.0, a.1)
      go more false e = rw e (above-rewrite x.key k v n es a.0, more)

  find-leave_out : (k : K) (es : List (Entry K V)) (j : K) → find cmp (pairs_of (leave_out cmp hash k es)) j ≡ cond (same cmp k j) None (find cmp (pairs_of es) j)
  find-leave_out k [] j = grind arith
  find-leave_out k (x ∷ es) j = grind (arith, common_steps, find-leave_out k es j, (one_class cmp total).congr x.key k j, (one_class cmp total).congr k j x.key, (one_class cmp total).symm x.key k)

  number-leave_out : (k : K) (es : List (Entry K V)) (j : K) → number_of cmp (leave_out cmp hash k es) j ≡ cond (same cmp k j) None (number_of cmp es j)
  number-leave_out k [] j = grind arith
  number-leave_out k (x ∷ es) j = grind (arith, common_steps, number-leave_out k es j, (one_class cmp total).congr x.key k j, (one_class cmp total).congr k j x.key, (one_class cmp total).symm x.key k)

  above-leave_out : (i k : K) (es : List (Entry K V)) → Above cmp hash i es → Above cmp hash i (leave_out cmp hash k es)
  above-leave_out i k [] a = tt
  above-leave_out i k (x ∷ es) a = go (above-leave_out i k es a.1) (same cmp x.key k) refl
    where
      go : Above cmp hash i (leave_out cmp hash k es) → (b : Bool) → same cmp x.key k ≡ b → Above cmp hash i (leave_out cmp hash k (x ∷ es))
      go more true e = rw e more
      go more false e = rw e (a.0, more)

  ascending-leave_out : (k : K) (es : List (Entry K V)) → IsAscending cmp hash es → IsAscending cmp hash (leave_out cmp hash k es)
  ascending-leave_out k [] a = tt
  ascending-leave_out k (x ∷ es) a = go (ascending-leave_out k es a.1) (same cmp x.key k) refl
    where
      go : IsAscending cmp hash (leave_out cmp hash k es) → (b : Bool) → same cmp x.key k ≡ b → IsAscending cmp hash (leave_out cmp hash k (x ∷ es))
      go more true e = rw e more
      go more false e = rw e (above-leave_out x.key k es a.0, more)

  -- THE CALLS
  module _ {F : Type 0} (gives : F → K → Option V → Verdict V → Type 0) where
    -- which class is stored
    class_of : (es : List (Entry K V)) (k : K) (x : K × V) → find cmp (pairs_of es) k ≡ Some x → same cmp x.0 k ≡ true
    class_of [] k x h = grind (arith, h)
    class_of (y ∷ es) k x h = grind (arith, h, class_of es k x)

    find-write : (es : List (Entry K V)) (k : K) (v : V) (j : K) (x : K × V) → find cmp (pairs_of es) k ≡ Some x → find cmp (write cmp (pairs_of es) k v) j ≡ cond (same cmp k j) (Some (x.0, v)) (find cmp (pairs_of es) j)
    find-write es k v j x h = grind (arith, h, find-without cmp total (pairs_of es) k j, class_of es k x h, (one_class cmp total).congr x.0 k j)

    find-write_new : (es : List (Entry K V)) (k : K) (v : V) (j : K) → find cmp (pairs_of es) k ≡ None → find cmp (write cmp (pairs_of es) k v) j ≡ cond (same cmp k j) (Some (k, v)) (find cmp (pairs_of es) j)
    find-write_new es k v j h = grind (arith, h, find-without cmp total (pairs_of es) k j)

    writes : (es : List (Entry K V)) (k : K) (v : V) (n : ℕ) (j : K) → find cmp (pairs_of (write_entry cmp hash k v n es)) j ≡ find cmp (write cmp (pairs_of es) k v) j
    writes es k v n j = go (find cmp (pairs_of es) k) refl
      where
        go : (o : Option (K × V)) → find cmp (pairs_of es) k ≡ o → find cmp (pairs_of (write_entry cmp hash k v n es)) j ≡ find cmp (write cmp (pairs_of es) k v) j
        go (Some x) e = grind (arith, e, number-find es k, find-rewrite k v n es j, find-write es k v j x e)
        go None e = let h : number_of cmp es k ≡ None = grind (arith, e, number-find es k) in grind (arith, e, h, find-place (record { key = k; value = v; number = n }) es j h, find-write_new es k v j e)

    number-write : (es : List (Entry K V)) (k : K) (v : V) (n : ℕ) (j : K) → number_of cmp (write_entry cmp hash k v n es) j ≡ cond (same cmp k j) (Some n) (number_of cmp es j)
    number-write es k v n j = go (number_of cmp es k) refl
      where
        go : (o : Option ℕ) → number_of cmp es k ≡ o → number_of cmp (write_entry cmp hash k v n es) j ≡ cond (same cmp k j) (Some n) (number_of cmp es j)
        go (Some x) e = grind (arith, e, number-rewrite k v n es j)
        go None e = grind (arith, e, number-place (record { key = k; value = v; number = n }) es j e)

    ascending-write : (es : List (Entry K V)) (k : K) (v : V) (n : ℕ) → IsAscending cmp hash es → IsAscending cmp hash (write_entry cmp hash k v n es)
    ascending-write es k v n a = go (number_of cmp es k) refl
      where
        go : (o : Option ℕ) → number_of cmp es k ≡ o → IsAscending cmp hash (write_entry cmp hash k v n es)
        go (Some x) e = rw e (ascending-rewrite k v n es a)
        go None e = rw e (ascending-place (record { key = k; value = v; number = n }) es e a)

    key_is : {k j : K} → Some k ≡ Some j → k ≡ j
    key_is {k} h = ap (λ o. unwrap_or o k) h

    -- what is asked of a conditional removal
    abbrev Conditional : Call K V F → KeptReply K V → List (Entry K V) → Type 0
    Conditional c r es = (z : Seen K V) → c ≡ RemoveSeen z → removes cmp hash gives r ≡ has_number (number_of cmp es z.key) z.number

    -- a new entry at its place
    placed_did : (c : Call K V F) (r : KeptReply K V) (k : K) (w : V) (es : List (Entry K V)) (n : ℕ) → key_of c ≡ Some k → changes cmp hash gives c r ≡ true → ((m : Pairs K V) → after cmp c r m ≡ put cmp m k w) → find cmp (pairs_of es) k ≡ None → IsAscending cmp hash es → Allows cmp gives c (pairs_of es) r → Conditional c r es
        → BinDid cmp hash gives c r es n (place cmp hash (record { key = k; value = w; number = bump n }) es) (bump n)
    placed_did c r k w es n key change left e s a q =
        let h : number_of cmp es k ≡ None = grind (arith, e, number-find es k) in
        record {
          allowed = a;
          ascending = ascending-place (record { key = k; value = w; number = bump n }) es h s;
          after = λ j. rw (left (pairs_of es)) (grind (arith, e, find-place (record { key = k; value = w; number = bump n }) es j h, find-without cmp total (pairs_of es) k j));
          count = inr refl;
          other_numbers = λ i j g f. grind (arith, key_is (sym key ∙ g), f, number-place (record { key = k; value = w; number = bump n }) es j h);
          kept_numbers = λ g. absurd (grind (arith, g, change));
          new_number = λ _ i g. inr (grind (arith, key_is (sym key ∙ g), number-place (record { key = k; value = w; number = bump n }) es i h, (one_class cmp total).refl i), refl);
          conditional = q;
        }

    -- another value at a class that is there
    rewritten_did : (c : Call K V F) (r : KeptReply K V) (k : K) (w : V) (x : K × V) (es : List (Entry K V)) (n : ℕ) → key_of c ≡ Some k → changes cmp hash gives c r ≡ true → ((m : Pairs K V) → after cmp c r m ≡ write cmp m k w) → find cmp (pairs_of es) k ≡ Some x → IsAscending cmp hash es → Allows cmp gives c (pairs_of es) r → Conditional c r es
        → BinDid cmp hash gives c r es n (rewrite cmp hash k w (bump n) es) (bump n)
    rewritten_did c r k w x es n key change left e s a q = record {
      allowed = a;
      ascending = ascending-rewrite k w (bump n) es s;
      after = λ j. rw (left (pairs_of es)) (grind (arith, e, find-rewrite k w (bump n) es j, find-write es k w j x e));
      count = inr refl;
      other_numbers = λ i j g f. grind (arith, key_is (sym key ∙ g), f, number-rewrite k w (bump n) es j);
      kept_numbers = λ g. absurd (grind (arith, g, change));
      new_number = λ _ i g. inr (grind (arith, key_is (sym key ∙ g), e, number-find es k, number-rewrite k w (bump n) es i, (one_class cmp total).refl i), refl);
      conditional = q;
    }

    -- the class left out
    left_out_did : (c : Call K V F) (r : KeptReply K V) (k : K) (es : List (Entry K V)) (n : ℕ) → key_of c ≡ Some k → changes cmp hash gives c r ≡ true → ((m : Pairs K V) → after cmp c r m ≡ without cmp m k) → IsAscending cmp hash es → Allows cmp gives c (pairs_of es) r → Conditional c r es
        → BinDid cmp hash gives c r es n (leave_out cmp hash k es) n
    left_out_did c r k es n key change left s a q = record {
      allowed = a;
      ascending = ascending-leave_out k es s;
      after = λ j. rw (left (pairs_of es)) (find-leave_out k es j ∙ sym (find-without cmp total (pairs_of es) k j));
      count = inl refl;
      other_numbers = λ i j g f. grind (arith, key_is (sym key ∙ g), f, number-leave_out k es j);
      kept_numbers = λ g. absurd (grind (arith, g, change));
      new_number = λ _ i g. inl (grind (arith, key_is (sym key ∙ g), number-leave_out k es i, (one_class cmp total).refl i));
      conditional = q;
    }

    -- what a reply tells of the class before it
    new_absent : (k : K) (v w : V) (x : Option (K × V)) → MatchOption x (◌≡◌ {A = KeptReply K V} (New w) (New v)) (λ p. ◌≡◌ {A = KeptReply K V} (New w) (Exists p.1 v)) → x ≡ None
    new_absent k v w None h = refl
    new_absent k v w (Some x) h = absurd (grind (arith, h))

    value_present : (f : F) (w : V) (x : Option (K × V)) → MatchOption x (◌≡◌ {A = KeptReply K V} (Value (Some w)) (Value None)) (λ p. (o : Option V) × gives f p.0 (Some p.1) (verdict_of o) × (◌≡◌ {A = KeptReply K V} (Value (Some w)) (Value o))) → (p : K × V) × (x ≡ Some p)
    value_present f w None h = absurd (grind (arith, h))
    value_present f w (Some x) h = (x, refl)

    added_absent : (w : V) (x : Option (K × V)) (v : Verdict V) → ◌≡◌ {A = KeptReply K V} (New w) (verdict_reply x v) → x ≡ None
    added_absent w None v h = refl
    added_absent w (Some x) Keep h = absurd (grind (arith, h))
    added_absent w (Some x) (Set u) h = absurd (grind (arith, h))
    added_absent w (Some x) Removed h = absurd (grind (arith, h))

    changed_present : (w o : V) (x : Option (K × V)) (v : Verdict V) → ◌≡◌ {A = KeptReply K V} (Changed w o) (verdict_reply x v) → (p : K × V) × (x ≡ Some p)
    changed_present w o None Keep h = absurd (grind (arith, h))
    changed_present w o None (Set u) h = absurd (grind (arith, h))
    changed_present w o None Removed h = absurd (grind (arith, h))
    changed_present w o (Some x) v h = (x, refl)

    -- each call does at a bin what the machine says
    pub bin_did : (c : Call K V F) (r : KeptReply K V) (es : List (Entry K V)) (n : ℕ) → IsAscending cmp hash es → Allows cmp gives c (pairs_of es) r → ((z : Seen K V) → c ≡ RemoveSeen z → removes cmp hash gives r ≡ has_number (number_of cmp es z.key) z.number) → BinDid cmp hash gives c r es n (bin_after cmp hash c r es n).0 (bin_after cmp hash c r es n).1
    bin_did (Insert k v) r es n s a q = record { allowed = a; ascending = ascending-write es k v (bump n) s; after = λ j. writes es k v (bump n) j; count = inr refl; other_numbers = λ i j h g. grind (arith, key_is h, g, number-write es k v (bump n) j); kept_numbers = λ h. absurd (grind (arith, h)); new_number = λ _ i h. inr (grind (arith, key_is h, number-write es k v (bump n) i, (one_class cmp total).refl i), refl); conditional = q }
    bin_did (TryInsert k v) (New w) es n s a q = placed_did (TryInsert k v) (New w) k v es n refl refl (λ _. refl) (new_absent k v w (find cmp (pairs_of es) k) a) s a q
    bin_did (Compute k f) (Value None) es n s a q = left_out_did (Compute k f) (Value None) k es n refl refl (λ _. refl) s a q
    bin_did (Compute k f) (Value (Some w)) es n s a q = let there = value_present f w (find cmp (pairs_of es) k) a in rewritten_did (Compute k f) (Value (Some w)) k w there.0 es n refl refl (λ _. refl) there.1 s a q
    bin_did (Alter k b f) (New w) es n s a q = placed_did (Alter k b f) (New w) k w es n refl refl (λ _. refl) (added_absent w (find cmp (pairs_of es) k) a.0 a.2) s a q
    bin_did (Alter k b f) (Changed w o) es n s a q = let there = changed_present w o (find cmp (pairs_of es) k) a.0 a.2 in rewritten_did (Alter k b f) (Changed w o) k w there.0 es n refl refl (λ _. refl) there.1 s a q
    bin_did (Alter k b f) (Pair (Some x)) es n s a q = left_out_did (Alter k b f) (Pair (Some x)) k es n refl refl (λ _. refl) s a q
    bin_did (Remove k) r es n s a q = left_out_did (Remove k) r k es n refl refl (λ _. refl) s a q
    bin_did (RemoveEntry k) r es n s a q = left_out_did (RemoveEntry k) r k es n refl refl (λ _. refl) s a q
    bin_did (RemoveSeen z) (Value (Some w)) es n s a q = left_out_did (RemoveSeen z) (Value (Some w)) z.key es n refl refl (λ _. refl) s a q
    bin_did c r es n s a q = record { allowed = a; ascending = s; after = λ j. refl; count = inl refl; other_numbers = λ k j _ _. refl; kept_numbers = λ _ j. refl; new_number = λ h. absurd (grind (arith, h)); conditional = q }
