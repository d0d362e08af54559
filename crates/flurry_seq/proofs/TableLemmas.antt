-- What a table holds, by its bins.
use Rattle.std.proofs.Common.{◌≡◌, ℕ, zero, suc, ◌+◌, ◌-◌, ◌<◌, ◌≤◌, Bool, true, false, cond, eqb, List, [], ◌∷◌, ◌++◌, length, map, get_or, set, Option, Some, None, is_some, option_map, refl, sym, ap, ◌∙◌, subst, arith, Ordering, Less, Equal, Greater}
use Rattle.std.specs.Ordering.{is_eq, ordering_then}
use Rattle.std.specs.Option.{option_map_or}
use Rattle.std.specs.Cmp.{IsTotalOrder, tied_itself, nat_cmp_total}
use Rattle.std.specs.List.{AllByRecursion}
use Rattle.std.proofs.Math.ListN.{length-set}
use Rattle.std.proofs.lemmas.List.{get_or-set_other}
use Rattle.std.proofs.lemmas.Grind.{get_or-set_at}
use borrow.Author.Tests.{eqb-true, eqb-false}
use Rattle.flurry_base.specs.FiniteMap.{pair_at, with_pair, without, stored_key, map_of_pairs}
use Rattle.std.specs.Borrow.{Bor}
use Rattle.std.specs.Arc.{arc_value}
use Rattle.flurry_bins.specs.declared.bin.entry.Entry.{Entry}
use Rattle.flurry_base.specs.HashOrder.{hash_then_key}
use Rattle.flurry_bins.specs.PlainEntries.{pair_of_entry}
use Rattle.flurry_seq.specs.Table.{bin_of}
use Rattle.flurry_base.proofs.FiniteMapLaws.{length-with_pair, length-without, found_in, pair_at-with_pair, pair_at-without, IsFiniteMap-with_pair, IsFiniteMap-without, IsFiniteMap-map_of_pairs, pair_at-map_of_pairs, same_map}
use Rattle.flurry_base.proofs.HashOrderLaws.{hash_then_key_total}
use Rattle.flurry_seq.specs.Table.{pair_of, all_pairs, bin_at, entry_in, bins_with, bins_without}
use Rattle.flurry_seq.specs.Invariant.{IsBinAt, AreBinsFrom, IsTable}
use Rattle.flurry_base.specs.declared.sizes.TheConstants.{MAX_LEN}

then_less : (x : Ordering) → is_eq (ordering_then x Less) ≡ false
then_less Less = refl
then_less Equal = refl
then_less Greater = refl

then_greater : (x : Ordering) → is_eq (ordering_then x Greater) ≡ false
then_greater Less = refl
then_greater Equal = refl
then_greater Greater = refl

map_cond : {A B : Type 0} (f : A → B) (b : Bool) (x : A) (o : Option A) (p : Option B) → p ≡ option_map f o → cond b (Some (f x)) p ≡ option_map f (cond b (Some x) o)
map_cond f true x o p h = refl
map_cond f false x o p h = h

map_cond_pair : {A B : Type 0} (f : A → B) (b : Bool) (x : A) (y : B) (w : Option A) → f x ≡ y → option_map f (cond b (Some x) w) ≡ cond b (Some y) (option_map f w)
map_cond_pair f true x y w e = ap Some e
map_cond_pair f false x y w e = refl

pub some_map : {A B : Type 0} (f : A → B) (w : Option A) → is_some (option_map f w) ≡ is_some w
some_map f None = refl
some_map f (Some x) = refl

-- an entry's key and value
pub pairs_mapped : {K V A : Type 0} (w : Option (Bor (Entry K V A))) → option_map (λ (e : Bor (Entry K V A)). (arc_value e.now.key, arc_value e.now.value)) w ≡ option_map pair_of (option_map (λ (e : Bor (Entry K V A)). pair_of_entry e.now) w)
pairs_mapped None = refl
pairs_mapped (Some x) = refl

fewer : (b : Bool) (n : ℕ) → n ≤ MAX_LEN → cond b (n - 1) n ≤ MAX_LEN
fewer true n h = omega arith
fewer false n h = h

map_cond_none : {A B : Type 0} (f : A → B) (b : Bool) (w : Option A) → option_map f (cond b None w) ≡ cond b None (option_map f w)
map_cond_none f true w = refl
map_cond_none f false w = refl

stored_same : {K V : Type 0} (w : Option ((ℕ × K) × V)) (h : ℕ) (k : K) → (option_map_or (λ (e : (ℕ × K) × V). e.0) w (h, k)).1 ≡ option_map_or (λ (p : K × V). p.0) (option_map pair_of w) k
stored_same None h k = refl
stored_same (Some e) h k = refl

eq_of : (r : Ordering) → is_eq r ≡ true → r ≡ Equal
eq_of Less e = cc
eq_of Equal e = refl
eq_of Greater e = cc

module _ {K : Type 0} {cmp : K → K → Ordering} (o : IsTotalOrder cmp) (hash : K → ℕ) (respects : (a b : K) → cmp a b ≡ Equal → hash a ≡ hash b) where
  -- under its key's hash a slot is found by the key alone
  pub slot_test : (q : K) (s : ℕ × K) → s.0 ≡ hash s.1 → is_eq (hash_then_key cmp (hash q, q) s) ≡ is_eq (cmp q s.1)
  slot_test q s h = by_order (cmp q s.1) refl
    where
      by_order : (r : Ordering) → cmp q s.1 ≡ r → is_eq (hash_then_key cmp (hash q, q) s) ≡ is_eq (cmp q s.1)
      by_order Less p = rw p (then_less _)
      by_order Greater p = rw p (then_greater _)
      by_order Equal p =
          let same : hash q ≡ s.0 = respects q s.1 p ∙ sym h in
          rw (p, same, tied_itself nat_cmp_total s.0) refl

  -- another bin holds nothing of k's class
  other_bin : (n : ℕ) (q k : K) → (bin_of n (hash q) ≡ bin_of n (hash k) → ⊥) → is_eq (cmp q k) ≡ false
  other_bin n q k apart = by_test (is_eq (cmp q k)) refl
    where
      by_test : (t : Bool) → is_eq (cmp q k) ≡ t → is_eq (cmp q k) ≡ false
      by_test true p = absurd (apart (ap (bin_of n) (respects q k (eq_of _ p))))
      by_test false p = p

module _ {K V : Type 0} {cmp : K → K → Ordering} (o : IsTotalOrder cmp) (hash : K → ℕ) (respects : (a b : K) → cmp a b ≡ Equal → hash a ≡ hash b) where
  pub at_here : (n i : ℕ) (b : List ((ℕ × K) × V)) (q : K) → AllByRecursion (λ e. (e.0.0 ≡ hash e.0.1) × (bin_of n e.0.0 ≡ i)) b
      → pair_at cmp (map pair_of b) q ≡ option_map pair_of (pair_at (hash_then_key cmp) b (hash q, q))
  at_here n i [] q h = refl
  at_here n i (e ∷ b) q h = rw (slot_test o hash respects q e.0 h.0.0) (map_cond pair_of (is_eq (cmp q e.0.1)) e _ _ (at_here n i b q h.1))

  at_other : (n i : ℕ) (b : List ((ℕ × K) × V)) (q : K) → AllByRecursion (λ e. (e.0.0 ≡ hash e.0.1) × (bin_of n e.0.0 ≡ i)) b
      → (bin_of n (hash q) ≡ i → ⊥) → pair_at cmp (map pair_of b) q ≡ None
  at_other n i [] q h apart = refl
  at_other n i (e ∷ b) q h apart = by_test (is_eq (cmp q e.0.1)) refl (at_other n i b q h.1 apart)
    where
      by_test : (t : Bool) → is_eq (cmp q e.0.1) ≡ t → pair_at cmp (map pair_of b) q ≡ None → pair_at cmp (map pair_of (e ∷ b)) q ≡ None
      by_test true p ih = absurd (apart (ap (bin_of n) (respects q e.0.1 (eq_of _ p) ∙ sym h.0.0) ∙ h.0.1))
      by_test false p ih = rw p ih

  pair_at-append_left : (xs ys : List (K × V)) (q : K) → pair_at cmp xs q ≡ None → pair_at cmp (xs ++ ys) q ≡ pair_at cmp ys q
  pair_at-append_left [] ys q h = refl
  pair_at-append_left (x ∷ xs) ys q h = by_test (is_eq (cmp q x.0)) refl (pair_at-append_left xs ys q)
    where
      by_test : (t : Bool) → is_eq (cmp q x.0) ≡ t → (pair_at cmp xs q ≡ None → pair_at cmp (xs ++ ys) q ≡ pair_at cmp ys q) → pair_at cmp (x ∷ (xs ++ ys)) q ≡ pair_at cmp ys q
      by_test true p ih = let y = rw p at h in cc
      by_test false p ih = let y = rw p at h in rw p (ih y)

  pair_at-append_right : (xs ys : List (K × V)) (q : K) → pair_at cmp ys q ≡ None → pair_at cmp (xs ++ ys) q ≡ pair_at cmp xs q
  pair_at-append_right [] ys q h = h
  pair_at-append_right (x ∷ xs) ys q h = ap (cond (is_eq (cmp q x.0)) (Some x)) (pair_at-append_right xs ys q h)

  pub none_from : (n i : ℕ) (bins : List (List ((ℕ × K) × V))) (q : K) → AreBinsFrom cmp hash n i bins → bin_of n (hash q) < i → pair_at cmp (all_pairs bins) q ≡ None
  none_from n i [] q h lt = refl
  none_from n i (b ∷ bins) q h lt =
      pair_at-append_left (map pair_of b) (all_pairs bins) q (at_other n i b q h.0.placed (λ e. omega arith)) ∙ none_from n (suc i) bins q h.1 (omega arith)

  pub at_from : (n i p : ℕ) (bins : List (List ((ℕ × K) × V))) (q : K) → AreBinsFrom cmp hash n i bins → bin_of n (hash q) ≡ i + p
      → pair_at cmp (all_pairs bins) q ≡ option_map pair_of (pair_at (hash_then_key cmp) (get_or bins p []) (hash q, q))
  at_from n i p [] q h e = refl
  at_from n i zero (b ∷ bins) q h e =
      pair_at-append_right (map pair_of b) (all_pairs bins) q (none_from n (suc i) bins q h.1 (omega arith)) ∙ at_here n i b q h.0.placed
  at_from n i (suc p) (b ∷ bins) q h e =
      pair_at-append_left (map pair_of b) (all_pairs bins) q (at_other n i b q h.0.placed (λ x. omega arith)) ∙ at_from n (suc i) p bins q h.1 (omega arith)

  -- what a table has at a key is what the key's bin has
  pub at_table : (bins : List (List ((ℕ × K) × V))) (q : K) → AreBinsFrom cmp hash (length bins) 0 bins
      → pair_at cmp (all_pairs bins) q ≡ option_map pair_of (entry_in cmp bins (hash q) q)
  at_table bins q h = at_from (length bins) 0 (bin_of (length bins) (hash q)) bins q h (omega arith)

  -- the same, of the map
  pub at_map : (bins : List (List ((ℕ × K) × V))) (q : K) → AreBinsFrom cmp hash (length bins) 0 bins
      → pair_at cmp (map_of_pairs cmp (all_pairs bins)) q ≡ option_map pair_of (entry_in cmp bins (hash q) q)
  at_map bins q h = pair_at-map_of_pairs o (all_pairs bins) q ∙ at_table bins q h

bin_below : (n h : ℕ) → 0 < n → bin_of n h < n
bin_below n h p = omega arith

module _ {K V : Type 0} {cmp : K → K → Ordering} (o : IsTotalOrder cmp) (hash : K → ℕ) where
  set_bins : (n i p : ℕ) (bins : List (List ((ℕ × K) × V))) (b : List ((ℕ × K) × V)) → AreBinsFrom cmp hash n i bins → IsBinAt cmp hash n (i + p) b → AreBinsFrom cmp hash n i (set bins p b)
  set_bins n i p [] b h k = tt
  set_bins n i zero (c ∷ bins) b h k = (subst (λ j. IsBinAt cmp hash n j b) (omega arith) k, h.1)
  set_bins n i (suc p) (c ∷ bins) b h k = (h.0, set_bins n (suc i) p bins b h.1 (subst (λ j. IsBinAt cmp hash n j b) (omega arith) k))

  bin_in : (n i p : ℕ) (bins : List (List ((ℕ × K) × V))) → p < length bins → AreBinsFrom cmp hash n i bins → IsBinAt cmp hash n (i + p) (get_or bins p [])
  bin_in n i p [] lt h = absurd (omega arith)
  bin_in n i zero (b ∷ bins) lt h = subst (λ j. IsBinAt cmp hash n j b) (omega arith) h.0
  bin_in n i (suc p) (b ∷ bins) lt h = subst (λ j. IsBinAt cmp hash n j (get_or bins p [])) {x = suc i + p} (omega arith) (bin_in n (suc i) p bins (omega arith) h.1)

  placed_with : (n i : ℕ) (b : List ((ℕ × K) × V)) (k : K) (v : V) → bin_of n (hash k) ≡ i → AllByRecursion (λ e. (e.0.0 ≡ hash e.0.1) × (bin_of n e.0.0 ≡ i)) b
      → AllByRecursion (λ e. (e.0.0 ≡ hash e.0.1) × (bin_of n e.0.0 ≡ i)) (with_pair (hash_then_key cmp) b (hash k, k) v)
  placed_with n i [] k v e h = ((refl, e), tt)
  placed_with n i (x ∷ b) k v e h = by_order (hash_then_key cmp (hash k, k) x.0) refl (placed_with n i b k v e h.1)
    where
      by_order : (r : Ordering) → hash_then_key cmp (hash k, k) x.0 ≡ r → AllByRecursion (λ e. (e.0.0 ≡ hash e.0.1) × (bin_of n e.0.0 ≡ i)) (with_pair (hash_then_key cmp) b (hash k, k) v)
          → AllByRecursion (λ e. (e.0.0 ≡ hash e.0.1) × (bin_of n e.0.0 ≡ i)) (with_pair (hash_then_key cmp) (x ∷ b) (hash k, k) v)
      by_order Less p ih = rw p ((refl, e), h)
      by_order Equal p ih = rw p h
      by_order Greater p ih = rw p (h.0, ih)

  placed_without : (n i : ℕ) (b : List ((ℕ × K) × V)) (k : K) → AllByRecursion (λ e. (e.0.0 ≡ hash e.0.1) × (bin_of n e.0.0 ≡ i)) b
      → AllByRecursion (λ e. (e.0.0 ≡ hash e.0.1) × (bin_of n e.0.0 ≡ i)) (without (hash_then_key cmp) b (hash k, k))
  placed_without n i [] k h = tt
  placed_without n i (x ∷ b) k h = by_test (is_eq (hash_then_key cmp (hash k, k) x.0)) refl (placed_without n i b k h.1)
    where
      by_test : (t : Bool) → is_eq (hash_then_key cmp (hash k, k) x.0) ≡ t → AllByRecursion (λ e. (e.0.0 ≡ hash e.0.1) × (bin_of n e.0.0 ≡ i)) (without (hash_then_key cmp) b (hash k, k))
          → AllByRecursion (λ e. (e.0.0 ≡ hash e.0.1) × (bin_of n e.0.0 ≡ i)) (without (hash_then_key cmp) (x ∷ b) (hash k, k))
      by_test true p ih = rw p h.1
      by_test false p ih = rw p (h.0, ih)

  -- the bin of a key
  bin_at_placed : (bins : List (List ((ℕ × K) × V))) (k : K) → 0 < length bins → AreBinsFrom cmp hash (length bins) 0 bins
      → IsBinAt cmp hash (length bins) (0 + bin_of (length bins) (hash k)) (bin_at bins (hash k))
  bin_at_placed bins k some h = bin_in (length bins) 0 (bin_of (length bins) (hash k)) bins (bin_below (length bins) (hash k) some) h

  pub bins_with-placed : (bins : List (List ((ℕ × K) × V))) (k : K) (v : V) → 0 < length bins → AreBinsFrom cmp hash (length bins) 0 bins
      → AreBinsFrom cmp hash (length (bins_with cmp bins (hash k) k v)) 0 (bins_with cmp bins (hash k) k v)
  bins_with-placed bins k v some h =
      let b = bin_at_placed bins k some h in
      rw length-set (set_bins (length bins) 0 (bin_of (length bins) (hash k)) bins (with_pair (hash_then_key cmp) (bin_at bins (hash k)) (hash k, k) v) h
      (record { ascends = IsFiniteMap-with_pair (hash_then_key_total o) (bin_at bins (hash k)) (hash k, k) v b.ascends; placed = placed_with (length bins) (0 + bin_of (length bins) (hash k)) (bin_at bins (hash k)) k v (omega arith) b.placed }))

  pub bins_without-placed : (bins : List (List ((ℕ × K) × V))) (k : K) → 0 < length bins → AreBinsFrom cmp hash (length bins) 0 bins
      → AreBinsFrom cmp hash (length (bins_without cmp bins (hash k) k)) 0 (bins_without cmp bins (hash k) k)
  bins_without-placed bins k some h =
      let b = bin_at_placed bins k some h in
      rw length-set (set_bins (length bins) 0 (bin_of (length bins) (hash k)) bins (without (hash_then_key cmp) (bin_at bins (hash k)) (hash k, k)) h
      (record { ascends = IsFiniteMap-without (hash_then_key_total o) (bin_at bins (hash k)) (hash k, k) b.ascends; placed = placed_without (length bins) (0 + bin_of (length bins) (hash k)) (bin_at bins (hash k)) k b.placed }))

module _ {K V : Type 0} {cmp : K → K → Ordering} (o : IsTotalOrder cmp) (hash : K → ℕ) (respects : (a b : K) → cmp a b ≡ Equal → hash a ≡ hash b) where
  -- an entry in a table whose bin of k is another
  in_same_bin : (bins : List (List ((ℕ × K) × V))) (new : List ((ℕ × K) × V)) (q k : K) → 0 < length bins → bin_of (length bins) (hash q) ≡ bin_of (length bins) (hash k)
      → entry_in cmp (set bins (bin_of (length bins) (hash k)) new) (hash q) q ≡ pair_at (hash_then_key cmp) new (hash q, q)
  in_same_bin bins new q k some e =
      rw length-set (ap (λ b. pair_at (hash_then_key cmp) b (hash q, q)) (get_or-set_at bins (bin_of (length bins) (hash k)) (bin_of (length bins) (hash q)) new [] e (bin_below (length bins) (hash k) some)))

  in_other_bin : (bins : List (List ((ℕ × K) × V))) (new : List ((ℕ × K) × V)) (q k : K) → (bin_of (length bins) (hash q) ≡ bin_of (length bins) (hash k) → ⊥)
      → entry_in cmp (set bins (bin_of (length bins) (hash k)) new) (hash q) q ≡ entry_in cmp bins (hash q) q
  in_other_bin bins new q k apart =
      rw length-set (ap (λ b. pair_at (hash_then_key cmp) b (hash q, q)) (get_or-set_other bins (bin_of (length bins) (hash k)) (bin_of (length bins) (hash q)) new [] apart))

  same_bin : (bins : List (List ((ℕ × K) × V))) (q k : K) → bin_of (length bins) (hash q) ≡ bin_of (length bins) (hash k) → pair_at (hash_then_key cmp) (bin_at bins (hash k)) (hash q, q) ≡ entry_in cmp bins (hash q) q
  same_bin bins q k e = ap (λ i. pair_at (hash_then_key cmp) (get_or bins i []) (hash q, q)) (sym e)

  -- what a table has at q after (k, v) is put
  at_with : (bins : List (List ((ℕ × K) × V))) (k : K) (v : V) (q : K) → 0 < length bins → AreBinsFrom cmp hash (length bins) 0 bins
      → option_map pair_of (entry_in cmp (bins_with cmp bins (hash k) k v) (hash q) q)
      ≡ cond (is_eq (cmp q k)) (Some (stored_key cmp (map_of_pairs cmp (all_pairs bins)) k, v)) (option_map pair_of (entry_in cmp bins (hash q) q))
  at_with bins k v q some h = by_bin (eqb (bin_of (length bins) (hash q)) (bin_of (length bins) (hash k))) refl
    where
      by_bin : (t : Bool) → eqb (bin_of (length bins) (hash q)) (bin_of (length bins) (hash k)) ≡ t
          → option_map pair_of (entry_in cmp (bins_with cmp bins (hash k) k v) (hash q) q)
          ≡ cond (is_eq (cmp q k)) (Some (stored_key cmp (map_of_pairs cmp (all_pairs bins)) k, v)) (option_map pair_of (entry_in cmp bins (hash q) q))
      by_bin true p =
          let e : bin_of (length bins) (hash q) ≡ bin_of (length bins) (hash k) = eqb-true _ _ p in
          let stored : (stored_key (hash_then_key cmp) (bin_at bins (hash k)) (hash k, k)).1 ≡ stored_key cmp (map_of_pairs cmp (all_pairs bins)) k =
          stored_same (entry_in cmp bins (hash k) k) (hash k) k ∙ ap (λ w. option_map_or (λ (x : K × V). x.0) w k) (sym (at_map o hash respects bins k h)) in
          ap (option_map pair_of) (in_same_bin bins (with_pair (hash_then_key cmp) (bin_at bins (hash k)) (hash k, k) v) q k some e
          ∙ pair_at-with_pair (hash_then_key_total o) (bin_at bins (hash k)) (hash k, k) v (hash q, q) (bin_at_placed o hash bins k some h).ascends)
          ∙ ap (λ t. option_map pair_of (cond t (Some (stored_key (hash_then_key cmp) (bin_at bins (hash k)) (hash k, k), v)) (pair_at (hash_then_key cmp) (bin_at bins (hash k)) (hash q, q)))) (slot_test o hash respects q (hash k, k) refl)
          ∙ map_cond_pair pair_of (is_eq (cmp q k)) _ (stored_key cmp (map_of_pairs cmp (all_pairs bins)) k, v) _ (ap (λ (x : K). (x, v)) stored)
          ∙ ap (λ w. cond (is_eq (cmp q k)) (Some (stored_key cmp (map_of_pairs cmp (all_pairs bins)) k, v)) (option_map pair_of w)) (same_bin bins q k e)
      by_bin false p =
          let apart : bin_of (length bins) (hash q) ≡ bin_of (length bins) (hash k) → ⊥ = eqb-false _ _ p in
          ap (option_map pair_of) (in_other_bin bins (with_pair (hash_then_key cmp) (bin_at bins (hash k)) (hash k, k) v) q k apart)
          ∙ ap (λ t. cond t (Some (stored_key cmp (map_of_pairs cmp (all_pairs bins)) k, v)) (option_map pair_of (entry_in cmp bins (hash q) q))) (sym (other_bin o hash respects (length bins) q k apart))

  at_without : (bins : List (List ((ℕ × K) × V))) (k : K) (q : K) → 0 < length bins → AreBinsFrom cmp hash (length bins) 0 bins
      → option_map pair_of (entry_in cmp (bins_without cmp bins (hash k) k) (hash q) q) ≡ cond (is_eq (cmp q k)) None (option_map pair_of (entry_in cmp bins (hash q) q))
  at_without bins k q some h = by_bin (eqb (bin_of (length bins) (hash q)) (bin_of (length bins) (hash k))) refl
    where
      by_bin : (t : Bool) → eqb (bin_of (length bins) (hash q)) (bin_of (length bins) (hash k)) ≡ t
          → option_map pair_of (entry_in cmp (bins_without cmp bins (hash k) k) (hash q) q) ≡ cond (is_eq (cmp q k)) None (option_map pair_of (entry_in cmp bins (hash q) q))
      by_bin true p =
          let e : bin_of (length bins) (hash q) ≡ bin_of (length bins) (hash k) = eqb-true _ _ p in
          ap (option_map pair_of) (in_same_bin bins (without (hash_then_key cmp) (bin_at bins (hash k)) (hash k, k)) q k some e
          ∙ pair_at-without (hash_then_key_total o) (bin_at bins (hash k)) (hash k, k) (hash q, q) (bin_at_placed o hash bins k some h).ascends)
          ∙ ap (λ t. option_map pair_of (cond t None (pair_at (hash_then_key cmp) (bin_at bins (hash k)) (hash q, q)))) (slot_test o hash respects q (hash k, k) refl)
          ∙ map_cond_none pair_of (is_eq (cmp q k)) _
          ∙ ap (λ w. cond (is_eq (cmp q k)) None (option_map pair_of w)) (same_bin bins q k e)
      by_bin false p =
          let apart : bin_of (length bins) (hash q) ≡ bin_of (length bins) (hash k) → ⊥ = eqb-false _ _ p in
          ap (option_map pair_of) (in_other_bin bins (without (hash_then_key cmp) (bin_at bins (hash k)) (hash k, k)) q k apart)
          ∙ ap (λ t. cond t None (option_map pair_of (entry_in cmp bins (hash q) q))) (sym (other_bin o hash respects (length bins) q k apart))

  -- the map after a pair is put into its bin
  pub map_of_pairs-with : (bins : List (List ((ℕ × K) × V))) (k : K) (v : V) → 0 < length bins → AreBinsFrom cmp hash (length bins) 0 bins
      → map_of_pairs cmp (all_pairs (bins_with cmp bins (hash k) k v)) ≡ with_pair cmp (map_of_pairs cmp (all_pairs bins)) k v
  map_of_pairs-with bins k v some h =
      let m = map_of_pairs cmp (all_pairs bins) in
      same_map o _ _ (IsFiniteMap-map_of_pairs o (all_pairs (bins_with cmp bins (hash k) k v))) (IsFiniteMap-with_pair o m k v (IsFiniteMap-map_of_pairs o (all_pairs bins)))
      (λ q. at_map o hash respects (bins_with cmp bins (hash k) k v) q (bins_with-placed o hash bins k v some h)
      ∙ at_with bins k v q some h
      ∙ ap (cond (is_eq (cmp q k)) (Some (stored_key cmp m k, v))) (sym (at_map o hash respects bins q h))
      ∙ sym (pair_at-with_pair o m k v q (IsFiniteMap-map_of_pairs o (all_pairs bins))))

  -- the map after a key's pair is taken out of its bin
  pub map_of_pairs-without : (bins : List (List ((ℕ × K) × V))) (k : K) → 0 < length bins → AreBinsFrom cmp hash (length bins) 0 bins
      → map_of_pairs cmp (all_pairs (bins_without cmp bins (hash k) k)) ≡ without cmp (map_of_pairs cmp (all_pairs bins)) k
  map_of_pairs-without bins k some h =
      let m = map_of_pairs cmp (all_pairs bins) in
      same_map o _ _ (IsFiniteMap-map_of_pairs o (all_pairs (bins_without cmp bins (hash k) k))) (IsFiniteMap-without o m k (IsFiniteMap-map_of_pairs o (all_pairs bins)))
      (λ q. at_map o hash respects (bins_without cmp bins (hash k) k) q (bins_without-placed o hash bins k some h)
      ∙ at_without bins k q some h
      ∙ ap (cond (is_eq (cmp q k)) None) (sym (at_map o hash respects bins q h))
      ∙ sym (pair_at-without o m k q (IsFiniteMap-map_of_pairs o (all_pairs bins))))

module _ {K V : Type 0} {cmp : K → K → Ordering} (o : IsTotalOrder cmp) (hash : K → ℕ) (respects : (a b : K) → cmp a b ≡ Equal → hash a ≡ hash b) where
  pub found_same : (bins : List (List ((ℕ × K) × V))) (k : K) → AreBinsFrom cmp hash (length bins) 0 bins → is_some (pair_at cmp (map_of_pairs cmp (all_pairs bins)) k) ≡ is_some (entry_in cmp bins (hash k) k)
  found_same bins k h = ap is_some (at_map o hash respects bins k h) ∙ some_map pair_of (entry_in cmp bins (hash k) k)

  pub IsTable-without : (bins : List (List ((ℕ × K) × V))) (len : ℕ) (k : K) → 0 < length bins → IsTable cmp hash bins len
      → IsTable cmp hash (bins_without cmp bins (hash k) k) (cond (is_some (entry_in cmp bins (hash k) k)) (len - 1) len)
  IsTable-without bins len k some t = record {
    placed = bins_without-placed o hash bins k some t.placed;
    count =
        rw (map_of_pairs-without o hash respects bins k some t.placed, length-without o, found_same bins k t.placed)
        (ap (λ n. cond (is_some (entry_in cmp bins (hash k) k)) (n - 1) n) t.count);
    few = fewer (is_some (entry_in cmp bins (hash k) k)) len t.few;
  }

  pub IsTable-with : (bins : List (List ((ℕ × K) × V))) (len : ℕ) (k : K) (v : V) → 0 < length bins → IsTable cmp hash bins len
      → (cond (is_some (entry_in cmp bins (hash k) k)) len (len + 1) ≤ MAX_LEN)
      → IsTable cmp hash (bins_with cmp bins (hash k) k v) (cond (is_some (entry_in cmp bins (hash k) k)) len (len + 1))
  IsTable-with bins len k v some t few = record {
    placed = bins_with-placed o hash bins k v some t.placed;
    count =
        rw (map_of_pairs-with o hash respects bins k v some t.placed, length-with_pair o (map_of_pairs cmp (all_pairs bins)) k v (IsFiniteMap-map_of_pairs o (all_pairs bins)), found_same bins k t.placed)
        (ap (λ n. cond (is_some (entry_in cmp bins (hash k) k)) n (n + 1)) t.count);
    few = few;
  }

  -- a map that has a pair is not empty
  pub len_some : (bins : List (List ((ℕ × K) × V))) (len : ℕ) (k : K) (e : (ℕ × K) × V) → IsTable cmp hash bins len → entry_in cmp bins (hash k) k ≡ Some e → 1 ≤ len
  len_some bins len k e t found =
      let x = found_in o (map_of_pairs cmp (all_pairs bins)) k (pair_of e) (at_map o hash respects bins k t.placed ∙ ap (option_map pair_of) found) in
      omega (arith, x, t.count)

  -- the same, also without a table
  pub IsTable-left_out : (bins : List (List ((ℕ × K) × V))) (len : ℕ) (k : K) → IsTable cmp hash bins len
      → IsTable cmp hash (bins_without cmp bins (hash k) k) (cond (is_some (entry_in cmp bins (hash k) k)) (len - 1) len)
  IsTable-left_out [] len k t = t
  IsTable-left_out (b ∷ bins) len k t = IsTable-without (b ∷ bins) len k (omega arith) t

  pub map_of_pairs-left_out : (bins : List (List ((ℕ × K) × V))) (k : K) → AreBinsFrom cmp hash (length bins) 0 bins
      → map_of_pairs cmp (all_pairs (bins_without cmp bins (hash k) k)) ≡ without cmp (map_of_pairs cmp (all_pairs bins)) k
  map_of_pairs-left_out [] k h = refl
  map_of_pairs-left_out (b ∷ bins) k h = map_of_pairs-without o hash respects (b ∷ bins) k (omega arith) h
