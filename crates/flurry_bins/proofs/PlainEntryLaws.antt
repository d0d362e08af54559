-- An edit of a bin's entries is the edit of the finite map that they make.
use Rattle.std.proofs.Common.{◌≡◌, ℕ, Bool, true, false, cond, List, [], ◌∷◌, ◌++◌, map, filter, Option, Some, None, refl, sym, ap, ◌∙◌, Ordering, Less, Equal, Greater}
use Rattle.std.specs.Ordering.{is_gt}
use Rattle.std.specs.Cmp.{IsTotalOrder, on_total}
use Rattle.std.specs.Int.{bit_at}
use Rattle.std.specs.Prelude.{◌==◌}
use Rattle.std.proofs.Common.{◌+◌, length}
use Rattle.std.proofs.lemmas.List.{length-map}
use Rattle.flurry_base.proofs.FiniteMapLaws.{length-with_pair}
use Rattle.std.specs.List.{find, AllByRecursion}
use Rattle.std.specs.List.Sorted.{IsStrictlySortedBy}
use Rattle.std.specs.Map.{keys_of}
use Rattle.flurry_base.specs.HashOrder.{InRegion}
use Rattle.flurry_bins.specs.PlainEntries.{AllInRegion}
use Rattle.std.specs.Option.{option_map, IsNone, IsSome}
use Rattle.std.specs.Arc.{arc_value}
use Rattle.std.specs.declared.sync.Arc.{Arc}
use Rattle.flurry_bins.specs.declared.bin.entry.Entry.{Entry}
use Rattle.flurry_bins.specs.Entries.{place_cmp, entry_cmp, IsAscending, is_at, is_past, entry_at, first_past, with_entry, with_value_at, without as without_place, with_value, with_bit}
use Rattle.flurry_base.specs.FiniteMap.{IsFiniteMap, pair_at, with_pair, without}
use Rattle.flurry_base.specs.HashOrder.{hash_then_key, is_pair_past, pairs_with_bit}
use Rattle.flurry_bins.specs.PlainEntries.{pair_with, pair_of_entry, pairs_of_entries}
use Rattle.flurry_base.proofs.ListParts.{sorted_tail}
use Rattle.flurry_base.proofs.HashOrderLaws.{hash_then_key_total}
use Rattle.flurry_base.proofs.OptionLaws.{absent_is}
use Rattle.flurry_bins.proofs.Places.{AllPast, past_rest, none_there, without-back, before-back, past-back, with_value_at-back}

-- the entries' order is total
pub entry_total : {K V A : Type 0} {cmp : K → K → Ordering} → IsTotalOrder cmp → IsTotalOrder {K = Entry K V A} (entry_cmp cmp)
entry_total o = on_total (λ e. (e.hash, arc_value e.key)) (hash_then_key_total o)

mapped : {A B : Type 0} (f : A → B) (b : Bool) (x : A) (o : Option A) (p : Option B) → p ≡ option_map f o → cond b (Some (f x)) p ≡ option_map f (cond b (Some x) o)
mapped f true x o p h = refl
mapped f false x o p h = h

mapped_list : {A B : Type 0} (f : A → B) (b : Bool) (x : A) (xs : List A) (ys : List B) → map f xs ≡ ys → map f (cond b (x ∷ xs) xs) ≡ cond b (f x ∷ ys) ys
mapped_list f true x xs ys h = ap (λ l. f x ∷ l) h
mapped_list f false x xs ys h = h

module _ {K V A W : Type 0} (cmp : K → K → Ordering) (f : Entry K V A → W) where
  pub paired-entry_at : (h : ℕ) (k : K) (es : List (Entry K V A)) → pair_at (hash_then_key cmp) (map (pair_with f) es) (h, k) ≡ option_map (pair_with f) (entry_at cmp h k es)
  paired-entry_at h k [] = refl
  paired-entry_at h k (e ∷ es) = mapped (pair_with f) (is_at cmp h k e) e _ _ (paired-entry_at h k es)

  -- the first entry past a bound
  pub paired-first_past : (bound : Option (ℕ × K)) (es : List (Entry K V A)) → find (is_pair_past cmp bound) (map (pair_with f) es) ≡ option_map (pair_with f) (first_past cmp bound es)
  paired-first_past None [] = refl
  paired-first_past None (e ∷ es) = refl
  paired-first_past (Some b) [] = refl
  paired-first_past (Some b) (e ∷ es) = mapped (pair_with f) (is_past cmp b.0 b.1 e) e _ _ (paired-first_past (Some b) es)

  -- they ascend as the entries do
  all_further : (d : Entry K V A) (es : List (Entry K V A)) → AllByRecursion (λ e. entry_cmp cmp d e ≡ Less) es → AllByRecursion (λ q. hash_then_key cmp (d.hash, arc_value d.key) q ≡ Less) (keys_of (map (pair_with f) es))
  all_further d [] h = tt
  all_further d (e ∷ es) h = (h.0, all_further d es h.1)

  pub paired-ascending : (es : List (Entry K V A)) → IsAscending cmp es → IsFiniteMap (hash_then_key cmp) (map (pair_with f) es)
  unfolding IsStrictlySortedBy
  paired-ascending [] up = tt
  paired-ascending (e ∷ es) up = (all_further e es up.0, paired-ascending es up.1)

  -- and lie in the same region
  pub paired-region : (table index : ℕ) (es : List (Entry K V A)) → AllInRegion table index es → AllByRecursion (λ (q : ℕ × K). InRegion table index q.0) (keys_of (map (pair_with f) es))
  paired-region table index [] h = tt
  paired-region table index (e ∷ es) h = (h.0, paired-region table index es h.1)

  pub paired-with_bit : (place bit : ℕ) (es : List (Entry K V A)) → map (pair_with f) (with_bit place bit es) ≡ pairs_with_bit place bit (map (pair_with f) es)
  paired-with_bit place bit [] = refl
  paired-with_bit place bit (e ∷ es) = mapped_list (pair_with f) (bit_at e.hash place == bit) e _ _ (paired-with_bit place bit es)

module _ {K V A W : Type 0} {cmp : K → K → Ordering} (o : IsTotalOrder cmp) (f : Entry K V A → W) where
  pub paired-without : (h : ℕ) (k : K) (es : List (Entry K V A)) → IsAscending cmp es → map (pair_with f) (without_place cmp h k es) ≡ without (hash_then_key cmp) (map (pair_with f) es) (h, k)
  paired-without h k [] up = refl
  paired-without h k (e ∷ es) up = by_order (place_cmp cmp h k e) refl (paired-without h k es (sorted_tail (entry_cmp cmp) e es up))
    where
      by_order : (r : Ordering) → place_cmp cmp h k e ≡ r → map (pair_with f) (without_place cmp h k es) ≡ without (hash_then_key cmp) (map (pair_with f) es) (h, k)
          → map (pair_with f) (without_place cmp h k (e ∷ es)) ≡ without (hash_then_key cmp) (map (pair_with f) (e ∷ es)) (h, k)
      by_order Less p ih = rw p (ap (λ l. pair_with f e ∷ l) ih)
      by_order Greater p ih = rw p (ap (λ l. pair_with f e ∷ l) ih)
      by_order Equal p ih = rw p (ap (map (pair_with f)) (without-back cmp h k [] es (past_rest o h k e es up (ap is_gt p))))

  placed_first : (x e : Entry K V A) (es : List (Entry K V A)) → IsAscending cmp (e ∷ es) → place_cmp cmp x.hash (arc_value x.key) e ≡ Less → with_entry cmp x (e ∷ es) ≡ x ∷ e ∷ es
  placed_first x e es up l =
      let h = x.hash in
      let k = arc_value x.key in
      let all : AllPast cmp h k (e ∷ es) = (l, past_rest o h k e es up (ap is_gt l)) in
      ap (λ t. t ++ x ∷ filter (is_past cmp h k) (e ∷ es)) (before-back cmp h k [] (e ∷ es) all) ∙ ap (λ t. x ∷ t) (past-back cmp h k [] (e ∷ es) all)

  pub paired-with_entry : (x : Entry K V A) (es : List (Entry K V A)) → IsAscending cmp es → IsNone (entry_at cmp x.hash (arc_value x.key) es)
      → map (pair_with f) (with_entry cmp x es) ≡ with_pair (hash_then_key cmp) (map (pair_with f) es) (x.hash, arc_value x.key) (f x)
  paired-with_entry x [] up none = refl
  paired-with_entry x (e ∷ es) up none = by_order (place_cmp cmp x.hash (arc_value x.key) e) refl (paired-with_entry x es (sorted_tail (entry_cmp cmp) e es up))
    where
      by_order : (r : Ordering) → place_cmp cmp x.hash (arc_value x.key) e ≡ r
          → (IsNone (entry_at cmp x.hash (arc_value x.key) es) → map (pair_with f) (with_entry cmp x es) ≡ with_pair (hash_then_key cmp) (map (pair_with f) es) (x.hash, arc_value x.key) (f x))
          → map (pair_with f) (with_entry cmp x (e ∷ es)) ≡ with_pair (hash_then_key cmp) (map (pair_with f) (e ∷ es)) (x.hash, arc_value x.key) (f x)
      by_order Less p ih = ap (map (pair_with f)) (placed_first x e es up p) ∙ rw p refl
      by_order Equal p ih = let there = rw p at none in cc
      by_order Greater p ih = let further = rw p at none in rw p (ap (λ l. pair_with f e ∷ l) (ih further))

  -- the value and the number that are written make w of each entry
  pub paired-with_value_at : (h : ℕ) (k : K) (v : Arc V A) (n : ℕ) (w : W) (es : List (Entry K V A)) → ((e : Entry K V A) → f (with_value e v n) ≡ w) → IsAscending cmp es → IsSome (entry_at cmp h k es)
      → map (pair_with f) (with_value_at cmp h k v n es) ≡ with_pair (hash_then_key cmp) (map (pair_with f) es) (h, k) w
  paired-with_value_at h k v n w [] alike up some = cc
  paired-with_value_at h k v n w (e ∷ es) alike up some = by_order (place_cmp cmp h k e) refl (paired-with_value_at h k v n w es alike (sorted_tail (entry_cmp cmp) e es up))
    where
      by_order : (r : Ordering) → place_cmp cmp h k e ≡ r
          → (IsSome (entry_at cmp h k es) → map (pair_with f) (with_value_at cmp h k v n es) ≡ with_pair (hash_then_key cmp) (map (pair_with f) es) (h, k) w)
          → map (pair_with f) (with_value_at cmp h k v n (e ∷ es)) ≡ with_pair (hash_then_key cmp) (map (pair_with f) (e ∷ es)) (h, k) w
      by_order Less p ih = let none = rw (none_there o h k e es up p) at some in cc
      by_order Equal p ih =
          rw p
          (ap (λ l. pair_with f (with_value e v n) ∷ map (pair_with f) l) (with_value_at-back cmp h k [] es (past_rest o h k e es up (ap is_gt p)) v n)
          ∙ ap (λ x. ((e.hash, arc_value e.key), x) ∷ map (pair_with f) es) (alike e))
      by_order Greater p ih = let further = rw p at some in rw p (ap (λ l. pair_with f e ∷ l) (ih further))

-- ---- with the value alone

module _ {K V A : Type 0} (cmp : K → K → Ordering) where
  pub pair_of_entry-entry_at : (h : ℕ) (k : K) (es : List (Entry K V A)) → pair_at (hash_then_key cmp) (pairs_of_entries es) (h, k) ≡ option_map pair_of_entry (entry_at cmp h k es)
  pair_of_entry-entry_at h k es = paired-entry_at cmp (λ (d : Entry K V A). arc_value d.value) h k es

  pub pair_of_entry-with_bit : (place bit : ℕ) (es : List (Entry K V A)) → pairs_of_entries (with_bit place bit es) ≡ pairs_with_bit place bit (pairs_of_entries es)
  pair_of_entry-with_bit place bit es = paired-with_bit cmp (λ (d : Entry K V A). arc_value d.value) place bit es

module _ {K V A : Type 0} {cmp : K → K → Ordering} (o : IsTotalOrder cmp) where
  pub pair_of_entry-without : (h : ℕ) (k : K) (es : List (Entry K V A)) → IsAscending cmp es → pairs_of_entries (without_place cmp h k es) ≡ without (hash_then_key cmp) (pairs_of_entries es) (h, k)
  pair_of_entry-without h k es up = paired-without o (λ (d : Entry K V A). arc_value d.value) h k es up

  pub pair_of_entry-with_entry : (x : Entry K V A) (es : List (Entry K V A)) → IsAscending cmp es → IsNone (entry_at cmp x.hash (arc_value x.key) es)
      → pairs_of_entries (with_entry cmp x es) ≡ with_pair (hash_then_key cmp) (pairs_of_entries es) (x.hash, arc_value x.key) (arc_value x.value)
  pair_of_entry-with_entry x es up none = paired-with_entry o (λ (d : Entry K V A). arc_value d.value) x es up none

  pub pair_of_entry-with_value_at : (h : ℕ) (k : K) (v : Arc V A) (n : ℕ) (es : List (Entry K V A)) → IsAscending cmp es → IsSome (entry_at cmp h k es)
      → pairs_of_entries (with_value_at cmp h k v n es) ≡ with_pair (hash_then_key cmp) (pairs_of_entries es) (h, k) (arc_value v)
  pair_of_entry-with_value_at h k v n es up some = paired-with_value_at o (λ (d : Entry K V A). arc_value d.value) h k v n (arc_value v) es (λ e. refl) up some

-- one more entry
pub length-with_entry : {K V A : Type 0} {cmp : _} (o : IsTotalOrder {K = K} cmp) (x : Entry K V A) (es : List (Entry K V A)) → IsAscending cmp es → IsNone (entry_at cmp x.hash (arc_value x.key) es) → length (with_entry cmp x es) ≡ length es + 1
length-with_entry {K = K} {V = V} {A = A} {cmp = cmp} o x es up none =
    let at : pair_at (hash_then_key cmp) (pairs_of_entries es) (x.hash, arc_value x.key) ≡ None = paired-entry_at cmp (λ (d : Entry K V A). arc_value d.value) x.hash (arc_value x.key) es ∙ ap (option_map pair_of_entry) (absent_is _ none) in
    sym (length-map (with_entry cmp x es) pair_of_entry) ∙ ap length (paired-with_entry o (λ (d : Entry K V A). arc_value d.value) x es up none)
    ∙ rw at at (length-with_pair (hash_then_key_total o) (pairs_of_entries es) (x.hash, arc_value x.key) (arc_value x.value) (paired-ascending cmp (λ (d : Entry K V A). arc_value d.value) es up)) ∙ ap (λ n. n + 1) (length-map es pair_of_entry)
