-- A table of twice as many bins holds the same pairs.
use Rattle.std.proofs.Common.{◌≡◌, ℕ, zero, suc, ◌+◌, ◌-◌, ◌*◌, ◌/◌, ◌%◌, ◌^◌, ◌<◌, ◌≤◌, Bool, true, false, not, cond, List, [], ◌∷◌, ◌++◌, length, map, filter, get_or, set, drop, replicate, Option, Some, None, is_some, IsSome, option_map, refl, sym, ap, ◌∙◌, subst, inl, inr, add-one, pow-suc, lit≤, mul_comm, mul_assoc, arith, Ordering, Less, Equal, Greater}
use Rattle.std.specs.Ordering.{is_eq, nat_cmp, ordering_then}
use Rattle.std.specs.Cmp.{IsTotalOrder}
use Rattle.std.specs.List.{AllByRecursion}
use Rattle.std.proofs.lemmas.Bool.Decides.{nat_tests}
use Rattle.std.proofs.lemmas.Bool.{cases_lt}
use Rattle.std.proofs.Math.Nat.{le-mul_of_pos_right, mul-le-mul_left}
use Rattle.std.proofs.Math.Pow.{pow_mono}
use Rattle.std.proofs.lemmas.Nat.{pow_pos}
use Rattle.std.proofs.lemmas.List.{get_or-append_right, length-append, length-map, length-replicate}
use Rattle.std.proofs.lemmas.Map.Lookups.{exact_unsigned}
use Rattle.std.proofs.lemmas.Nat.{mod-mul-add, div-add-mod', mod_below}
use Rattle.std.proofs.Math.ListN.{get_or-append, get_or-map}
use Rattle.flurry_base.specs.Sizes.{wanted_of}
use Rattle.std.specs.Int.Digits.{digits_of}
use Rattle.std.proofs.lemmas.Int.Digits.{length-digits_of-le}
use Rattle.flurry_base.proofs.SizeLaws.{wanted_of-less, wanted_of-most}
use Rattle.flurry_base.specs.FiniteMap.{pair_at, map_of_pairs}
use Rattle.flurry_base.specs.HashOrder.{hash_then_key}
use Rattle.flurry_seq.specs.Table.{bin_of, is_low, is_in_half, half_of}
use Rattle.flurry_base.proofs.FiniteMapLaws.{IsFiniteMap-map_of_pairs, IsFiniteMap-filter, IsFiniteMap-nil, same_map}
use Rattle.flurry_base.proofs.HashOrderLaws.{hash_then_key_total}
use Rattle.flurry_seq.specs.Table.{pair_of, all_pairs, entry_in, bins_doubled, bins_after, bins_with, IsTimesPower}
use Rattle.flurry_seq.specs.Contents.{first_bins}
use Rattle.std.specs.Prelude.{◌==◌}
use Rattle.flurry_seq.specs.Invariant.{IsBinAt, AreBinsFrom, IsTable, IsTableSize}
use Rattle.flurry_seq.proofs.TableLemmas.{at_map, IsTable-with}
use Rattle.flurry_base.specs.declared.sizes.TheConstants.{MAX_TABLE, MAX_LEN}

-- ---- where a hash goes

pub low_bin : (n h : ℕ) → h % (2 * n) < n → h % n ≡ h % (2 * n)
low_bin n h lt =
    let whole : h ≡ (h / (2 * n) * 2) * n + h % (2 * n) = omega (arith, div-add-mod' h (2 * n)) in
    ap (λ x. x % n) whole ∙ mod-mul-add (h / (2 * n) * 2) n (h % (2 * n)) lt

pub high_bin : (n h : ℕ) → 0 < n → n ≤ h % (2 * n) → h % n ≡ h % (2 * n) - n
high_bin n h some ge =
    let below : h % (2 * n) < 2 * n = mod_below h (2 * n) (omega arith) in
    let whole : h ≡ (h / (2 * n) * 2 + 1) * n + (h % (2 * n) - n) = omega (arith, div-add-mod' h (2 * n)) in
    ap (λ x. x % n) whole ∙ mod-mul-add (h / (2 * n) * 2 + 1) n (h % (2 * n) - n) (omega arith)

half_bin : (n h i : ℕ) (high : Bool) → 0 < n → h % n ≡ i → is_in_half n high h ≡ true → h % (2 * n) ≡ cond high (n + i) i
half_bin n h i false some e t =
    let lt : h % (2 * n) < n = grind (arith, nat_tests) in
    sym (low_bin n h lt) ∙ e
half_bin n h i true some e t =
    let ge : n ≤ h % (2 * n) = grind (arith, nat_tests) in
    let x = high_bin n h some ge in
    omega arith

pub size_doubled : (n : ℕ) → 0 < n → n < 2 ^ MAX_TABLE → IsTableSize n → IsTableSize (2 * n)
size_doubled n some less (inl e) = absurd (omega arith)
size_doubled n some less (inr (e, small, is)) =
    let below : e < MAX_TABLE = exponent e (subst (λ m. m < 2 ^ MAX_TABLE) is less) in
    inr (e + 1, omega arith, rw (is, add-one, pow-suc) (omega arith))
  where
    exponent : (e : ℕ) → 2 ^ e < 2 ^ MAX_TABLE → e < MAX_TABLE
    exponent e h = elim (cases_lt e MAX_TABLE) [
      | inl lt ↦ lt
      | inr ge ↦ let m = pow_mono {i = MAX_TABLE} {j = e} ge in absurd (omega arith)
    ]

pub size_most : (n : ℕ) → IsTableSize n → n ≤ 2 ^ MAX_TABLE
size_most n (inl none) = omega arith
size_most n (inr (e, small, is)) = rw is (pow_mono small)

-- there is a table after one of so many bins was made where there was none
pub first_some : (n w : ℕ) → 0 < w → 0 < first_bins n w
first_some n w some = elim (cases_lt 0 n) [
  | inl lt ↦ let t : (n == 0) ≡ false = grind (arith, nat_tests) in rw t lt
  | inr ge ↦ let t : (n == 0) ≡ true = grind (arith, nat_tests) in rw t some
]

pub first_standing : (n w : ℕ) → 0 < n → first_bins n w ≡ n
first_standing n w some = let t : (n == 0) ≡ false = grind (arith, nat_tests) in rw t refl

-- each size that is wanted is one of a table
pub wanted_size : (s : ℕ) → (e : ℕ) × (e ≤ MAX_TABLE) × (wanted_of s ≡ 2 ^ e)
wanted_size s = elim (cases_lt s (2 ^ 29)) [
  | inl lt ↦ (length (digits_of 2 (s + s / 2)), length-digits_of-le 2 MAX_TABLE (s + s / 2) (lit≤ tt) (omega arith), wanted_of-less s lt)
  | inr ge ↦ (MAX_TABLE, lit≤ tt, wanted_of-most s ge)
]

-- ---- the halves of a bin

pub length-doubled : {K V : Type 0} (bins : List (List ((ℕ × K) × V))) → length (bins_doubled bins) ≡ 2 * length bins
length-doubled bins = simp (length-append, length-map) (omega arith)

twice_times : (n p : ℕ) → 2 * (n * p) ≡ n * (p * 2)
twice_times n p = mul_comm 2 (n * p) ∙ mul_assoc n p 2

pub length-after : {K V : Type 0} (j : ℕ) (bins : List (List ((ℕ × K) × V))) → length (bins_after j bins) ≡ length bins * 2 ^ j
length-after zero bins = omega arith
length-after (suc j) bins = rw pow-suc (length-doubled (bins_after j bins) ∙ ap (λ n. 2 * n) (length-after j bins) ∙ twice_times (length bins) (2 ^ j))

after_some : {K V : Type 0} (j : ℕ) (bins : List (List ((ℕ × K) × V))) → 0 < length bins → 0 < length (bins_after j bins)
after_some j bins some = let more : length bins ≤ length bins * 2 ^ j = le-mul_of_pos_right (length bins) (pow_pos j) in rw length-after (omega arith)

-- of the numbers n, 2 * n, 4 * n and so on one that is below another is at most half of it
half_way : (n i j : ℕ) → n * 2 ^ i < n * 2 ^ j → 2 * (n * 2 ^ i) ≤ n * 2 ^ j
half_way n i j lt = elim (cases_lt i j) [
  | inl less ↦
      let power : 2 ^ suc i ≤ 2 ^ j = pow_mono (omega arith) in
      let twice : n * 2 ^ suc i ≤ n * 2 ^ j = mul-le-mul_left n power in
      rw (twice_times, ← pow-suc) twice
  | inr more ↦ let no : n * 2 ^ j ≤ n * 2 ^ i = mul-le-mul_left n (pow_mono more) in absurd (omega arith)
]

-- while there are fewer bins than so many, of which there are some doublings, there is room for one doubling
pub twice_fits : {K V : Type 0} (i : ℕ) (old : List (List ((ℕ × K) × V))) (m n : ℕ) → IsTimesPower (length old) m → n ≡ length (bins_after i old) → n < m → 2 * n ≤ m
twice_fits i old m n (j, is) at less =
    let here : n ≡ length old * 2 ^ i = at ∙ length-after i old in
    let fits : 2 * (length old * 2 ^ i) ≤ length old * 2 ^ j = half_way (length old) i j (omega arith) in
    omega arith

module _ {K V : Type 0} {cmp : K → K → Ordering} (o : IsTotalOrder cmp) (hash : K → ℕ) where
  placed_half : (n i : ℕ) (high : Bool) (b : List ((ℕ × K) × V)) → 0 < n → AllByRecursion (λ e. (e.0.0 ≡ hash e.0.1) × (bin_of n e.0.0 ≡ i)) b
      → AllByRecursion (λ e. (e.0.0 ≡ hash e.0.1) × (bin_of (2 * n) e.0.0 ≡ cond high (n + i) i)) (half_of n high b)
  placed_half n i high [] some h = tt
  placed_half n i high (e ∷ b) some h = by_test (is_in_half n high e.0.0) refl (placed_half n i high b some h.1)
    where
      by_test : (t : Bool) → is_in_half n high e.0.0 ≡ t → AllByRecursion (λ e. (e.0.0 ≡ hash e.0.1) × (bin_of (2 * n) e.0.0 ≡ cond high (n + i) i)) (half_of n high b)
          → AllByRecursion (λ e. (e.0.0 ≡ hash e.0.1) × (bin_of (2 * n) e.0.0 ≡ cond high (n + i) i)) (half_of n high (e ∷ b))
      by_test true p ih = rw p ((h.0.0, half_bin n e.0.0 i high some h.0.1 p), ih)
      by_test false p ih = rw p ih

  bin_half : (n i : ℕ) (high : Bool) (b : List ((ℕ × K) × V)) → 0 < n → IsBinAt cmp hash n i b → IsBinAt cmp hash (2 * n) (cond high (n + i) i) (half_of n high b)
  bin_half n i high b some h = record {
    ascends = IsFiniteMap-filter (hash_then_key_total o) (λ e. is_in_half n high e.0.0) b h.ascends;
    placed = placed_half n i high b some h.placed;
  }

  halves : (n i : ℕ) (high : Bool) (bins : List (List ((ℕ × K) × V))) → 0 < n → AreBinsFrom cmp hash n i bins → AreBinsFrom cmp hash (2 * n) (cond high (n + i) i) (map (half_of n high) bins)
  halves n i high [] some h = tt
  halves n i high (b ∷ bins) some h = (bin_half n i high b some h.0, subst (λ j. AreBinsFrom cmp hash (2 * n) j (map (half_of n high) bins)) (next high) (halves n (suc i) high bins some h.1))
    where
      next : (high : Bool) → cond high (n + suc i) (suc i) ≡ suc (cond high (n + i) i)
      next true = omega arith
      next false = refl

  joined : (n i : ℕ) (xs ys : List (List ((ℕ × K) × V))) → AreBinsFrom cmp hash n i xs → AreBinsFrom cmp hash n (i + length xs) ys → AreBinsFrom cmp hash n i (xs ++ ys)
  joined n i [] ys h k = subst (λ j. AreBinsFrom cmp hash n j ys) (omega arith) k
  joined n i (b ∷ xs) ys h k = (h.0, joined n (suc i) xs ys h.1 (subst (λ j. AreBinsFrom cmp hash n j ys) (omega arith) k))

  pub doubled-placed : (bins : List (List ((ℕ × K) × V))) → 0 < length bins → AreBinsFrom cmp hash (length bins) 0 bins → AreBinsFrom cmp hash (length (bins_doubled bins)) 0 (bins_doubled bins)
  doubled-placed bins some h =
      rw (length-doubled bins)
      (joined (2 * length bins) 0 (map (half_of (length bins) false) bins) (map (half_of (length bins) true) bins) (halves (length bins) 0 false bins some h)
      (subst (λ j. AreBinsFrom cmp hash (2 * length bins) j (map (half_of (length bins) true) bins)) (simp length-map (omega arith)) (halves (length bins) 0 true bins some h)))

  -- a half that the hash is in has the hash's entries
  at_half : (t : ℕ → Bool) (b : List ((ℕ × K) × V)) (h : ℕ) (q : K) → t h ≡ true → pair_at (hash_then_key cmp) (filter (λ e. t e.0.0) b) (h, q) ≡ pair_at (hash_then_key cmp) b (h, q)
  at_half t [] h q e = refl
  at_half t (x ∷ b) h q e = by_test (t x.0.0) refl (at_half t b h q e)
    where
      apart : (r : Ordering) → nat_cmp h x.0.0 ≡ r → t x.0.0 ≡ false → is_eq (ordering_then r (cmp q x.0.1)) ≡ false
      apart Less p f = refl
      apart Greater p f = refl
      apart Equal p f = let same = ap t (exact_unsigned h x.0.0 p) in cc

      by_test : (w : Bool) → t x.0.0 ≡ w → pair_at (hash_then_key cmp) (filter (λ e. t e.0.0) b) (h, q) ≡ pair_at (hash_then_key cmp) b (h, q)
          → pair_at (hash_then_key cmp) (filter (λ e. t e.0.0) (x ∷ b)) (h, q) ≡ pair_at (hash_then_key cmp) (x ∷ b) (h, q)
      by_test true p ih = rw p (ap (cond (is_eq (hash_then_key cmp (h, q) x.0)) (Some x)) ih)
      by_test false p ih = rw (p, apart (nat_cmp h x.0.0) refl p) ih

  entry_doubled : (bins : List (List ((ℕ × K) × V))) (h : ℕ) (q : K) → 0 < length bins → entry_in cmp (bins_doubled bins) h q ≡ entry_in cmp bins h q
  entry_doubled bins h q some = by_half (is_low (length bins) h) refl
    where
      by_half : (t : Bool) → is_low (length bins) h ≡ t → entry_in cmp (bins_doubled bins) h q ≡ entry_in cmp bins h q
      by_half true p =
          let lt : h % (2 * length bins) < length bins = grind (arith, nat_tests) in
          let lt_map : h % (2 * length bins) < length (map (half_of (length bins) false) bins) = simp length-map lt in
          rw (length-doubled bins)
          (ap (λ b. pair_at (hash_then_key cmp) b (h, q)) (get_or-append (map (half_of (length bins) false) bins) (map (half_of (length bins) true) bins) [] (h % (2 * length bins)) lt_map ∙ get_or-map (half_of (length bins) false) bins (h % (2 * length bins)) [])
          ∙ at_half (is_in_half (length bins) false) (get_or bins (h % (2 * length bins)) []) h q p
          ∙ ap (λ j. pair_at (hash_then_key cmp) (get_or bins j []) (h, q)) (sym (low_bin (length bins) h lt)))
      by_half false p =
          let ge : length bins ≤ h % (2 * length bins) = grind (arith, nat_tests) in
          rw (length-doubled bins)
          (ap (λ b. pair_at (hash_then_key cmp) b (h, q)) (get_or-append_right (map (half_of (length bins) false) bins) (map (half_of (length bins) true) bins) (length bins) (h % (2 * length bins)) [] (simp length-map) ge ∙ get_or-map (half_of (length bins) true) bins (h % (2 * length bins) - length bins) [])
          ∙ at_half (is_in_half (length bins) true) (get_or bins (h % (2 * length bins) - length bins) []) h q (ap not p)
          ∙ ap (λ j. pair_at (hash_then_key cmp) (get_or bins j []) (h, q)) (sym (high_bin (length bins) h some ge)))

module _ {K V : Type 0} {cmp : K → K → Ordering} (o : IsTotalOrder cmp) (hash : K → ℕ) (respects : (a b : K) → cmp a b ≡ Equal → hash a ≡ hash b) where
  -- a doubling changes no pair
  pub map_of_pairs-doubled : (bins : List (List ((ℕ × K) × V))) → 0 < length bins → AreBinsFrom cmp hash (length bins) 0 bins → map_of_pairs cmp (all_pairs (bins_doubled bins)) ≡ map_of_pairs cmp (all_pairs bins)
  map_of_pairs-doubled bins some h =
      same_map o _ _ (IsFiniteMap-map_of_pairs o (all_pairs (bins_doubled bins))) (IsFiniteMap-map_of_pairs o (all_pairs bins))
      (λ q. at_map o hash respects (bins_doubled bins) q (doubled-placed o hash bins some h)
      ∙ ap (option_map pair_of) (entry_doubled o hash bins (hash q) q some)
      ∙ sym (at_map o hash respects bins q h))

  after-placed : (j : ℕ) (bins : List (List ((ℕ × K) × V))) → 0 < length bins → AreBinsFrom cmp hash (length bins) 0 bins → AreBinsFrom cmp hash (length (bins_after j bins)) 0 (bins_after j bins)
  after-placed zero bins some h = h
  after-placed (suc j) bins some h = doubled-placed o hash (bins_after j bins) (after_some j bins some) (after-placed j bins some h)

  -- nor do several
  pub map_of_pairs-after : (j : ℕ) (bins : List (List ((ℕ × K) × V))) → 0 < length bins → AreBinsFrom cmp hash (length bins) 0 bins → map_of_pairs cmp (all_pairs (bins_after j bins)) ≡ map_of_pairs cmp (all_pairs bins)
  map_of_pairs-after zero bins some h = refl
  map_of_pairs-after (suc j) bins some h = map_of_pairs-doubled (bins_after j bins) (after_some j bins some) (after-placed j bins some h) ∙ map_of_pairs-after j bins some h

  pub IsTable-after : (j : ℕ) (bins : List (List ((ℕ × K) × V))) (len : ℕ) → 0 < length bins → IsTable cmp hash bins len → IsTable cmp hash (bins_after j bins) len
  IsTable-after j bins len some t = record {
    placed = after-placed j bins some t.placed;
    count = rw (map_of_pairs-after j bins some t.placed) t.count;
    few = t.few;
  }

-- ---- a first table

module _ {K : Type 0} (V : Type 0) (cmp : K → K → Ordering) (hash : K → ℕ) where
  pub all_pairs-empty : (n : ℕ) → all_pairs {K = K} {V = V} (replicate n []) ≡ []
  all_pairs-empty zero = refl
  all_pairs-empty (suc n) = all_pairs-empty n

  pub empty_placed : (n i m : ℕ) → AreBinsFrom {V = V} cmp hash n i (replicate m [])
  empty_placed n i zero = tt
  empty_placed n i (suc m) = (record { ascends = IsFiniteMap-nil V (hash_then_key cmp); placed = tt }, empty_placed n (suc i) m)

  pub IsTable-empty : (n : ℕ) → IsTable {V = V} cmp hash (replicate n []) 0
  IsTable-empty n = record {
    placed = empty_placed (length (replicate {A = List ((ℕ × K) × V)} n [])) 0 n;
    count = rw (all_pairs-empty n) refl;
    few = lit≤ tt;
  }

  pub length-empty : (n : ℕ) → length (replicate {A = List ((ℕ × K) × V)} n []) ≡ n
  length-empty n = length-replicate n []

pub wanted_some : (s : ℕ) → 0 < wanted_of s
wanted_some s = let p = wanted_size s in rw p.2 (pow_pos p.0)

pub map_of_pairs-none : {K V : Type 0} (cmp : K → K → Ordering) (bins : List (List ((ℕ × K) × V))) → length bins ≡ 0 → map_of_pairs cmp (all_pairs bins) ≡ []
map_of_pairs-none cmp [] e = refl
map_of_pairs-none cmp (b ∷ bins) e = absurd (omega arith)

pub len-none : {K V : Type 0} (cmp : K → K → Ordering) (hash : K → ℕ) (bins : List (List ((ℕ × K) × V))) (len : ℕ) → length bins ≡ 0 → IsTable cmp hash bins len → len ≡ 0
len-none cmp hash bins len e t = t.count ∙ ap length (map_of_pairs-none cmp bins e)

-- ---- what an insertion does

pub none_from_test : {X : Type 0} (w : Option X) → is_some w ≡ false → w ≡ None
none_from_test None e = refl
none_from_test (Some x) e = cc

pub value_of_entry : {K V : Type 0} (w : Option ((ℕ × K) × V)) → option_map (λ (p : K × V). p.1) (option_map pair_of w) ≡ option_map (λ (e : (ℕ × K) × V). e.1) w
value_of_entry None = refl
value_of_entry (Some x) = refl

pub some_bins : {K V : Type 0} (cmp : K → K → Ordering) (bins : List (List ((ℕ × K) × V))) (h : ℕ) (k : K) → is_some (entry_in cmp bins h k) ≡ true → 0 < length bins
some_bins cmp [] h k e = cc
some_bins cmp (b ∷ bins) h k e = omega arith

module _ {K V : Type 0} {cmp : K → K → Ordering} (o : IsTotalOrder cmp) (hash : K → ℕ) (respects : (a b : K) → cmp a b ≡ Equal → hash a ≡ hash b) where
  pub IsTable-replaced : (bins : List (List ((ℕ × K) × V))) (len : ℕ) (k : K) (v : V) → is_some (entry_in cmp bins (hash k) k) ≡ true → IsTable cmp hash bins len → IsTable cmp hash (bins_with cmp bins (hash k) k v) len
  IsTable-replaced bins len k v found t =
      subst (λ b. IsTable cmp hash (bins_with cmp bins (hash k) k v) (cond b len (len + 1))) found
      (IsTable-with o hash respects bins len k v (some_bins cmp bins (hash k) k found) t (rw found t.few))

  pub IsTable-added : (bins : List (List ((ℕ × K) × V))) (len : ℕ) (k : K) (v : V) → 0 < length bins → entry_in cmp bins (hash k) k ≡ None → len < MAX_LEN → IsTable cmp hash bins len
      → IsTable cmp hash (bins_with cmp bins (hash k) k v) (len + 1)
  IsTable-added bins len k v some absent less t =
      let none : is_some (entry_in cmp bins (hash k) k) ≡ false = ap is_some absent in
      subst (λ b. IsTable cmp hash (bins_with cmp bins (hash k) k v) (cond b len (len + 1))) none
      (IsTable-with o hash respects bins len k v some t (rw none (omega arith)))

  -- what the map has not, the table has not
  pub entry_absent : (bins : List (List ((ℕ × K) × V))) (len : ℕ) (k : K) → IsTable cmp hash bins len → pair_at cmp (map_of_pairs cmp (all_pairs bins)) k ≡ None → entry_in cmp bins (hash k) k ≡ None
  entry_absent bins len k t absent = none_from_map (entry_in cmp bins (hash k) k) (sym (at_map o hash respects bins k t.placed) ∙ absent)
    where
      none_from_map : (w : Option ((ℕ × K) × V)) → option_map pair_of w ≡ None → w ≡ None
      none_from_map None e = refl
      none_from_map (Some x) e = cc

-- ---- clearing

pub cleared : {X : Type 0} (e : X) (i : ℕ) (xs : List X) → i < length xs → set (replicate i e ++ drop i xs) i e ≡ replicate (suc i) e ++ drop (suc i) xs
cleared e i [] lt = absurd (omega arith)
cleared e zero (x ∷ xs) lt = refl
cleared e (suc i) (x ∷ xs) lt = ap (λ l. e ∷ l) (cleared e i xs (omega arith))

pub all_cleared : {X : Type 0} (e : X) (xs : List X) → replicate (length xs) e ++ drop (length xs) xs ≡ replicate (length xs) e
all_cleared e [] = refl
all_cleared e (x ∷ xs) = ap (λ l. e ∷ l) (all_cleared e xs)

pub is_some_true : {X : Type 0} (w : Option X) → IsSome w → is_some w ≡ true
is_some_true w h = h

pub IsSome_true : {X : Type 0} (w : Option X) → is_some w ≡ true → IsSome w
IsSome_true w h = h
