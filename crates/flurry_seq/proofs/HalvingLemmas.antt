-- The bins of a table are halved one after another.
use Rattle.std.proofs.Common.{◌≡◌, ℕ, zero, suc, ◌+◌, ◌*◌, ◌/◌, ◌%◌, ◌^◌, ◌<◌, Bool, true, false, not, cond, List, [], ◌∷◌, ◌++◌, length, map, filter, take, get_or, set, refl, sym, ap, ◌∙◌, add-one, add-mul, mul_assoc, add_assoc, append_assoc, arith, inl, inr}
use Rattle.std.specs.Prelude.{◌==◌, nat_lt}
use Rattle.std.specs.Int.{bit_at}
use Rattle.std.proofs.lemmas.Bool.Decides.{nat_tests}
use Rattle.std.proofs.lemmas.Bool.{cases_lt}
use Rattle.std.proofs.lemmas.Nat.{mod-mul-add, div-add-mod', mod_below, pow_pos}
use Rattle.flurry_base.specs.HashOrder.{pairs_with_bit}
use Rattle.flurry_seq.specs.Table.{is_low, half_of, bins_doubled}

-- ---- the bit that tells the halves of a bin apart

bit_apart : (n h : ℕ) → 0 < n → (h / n % 2 == 0) ≡ is_low n h
bit_apart n h some =
    let q = h / n in
    let r = h % n in
    let small : r < n = mod_below h n some in
    let bit : q % 2 < 2 = mod_below q 2 (omega arith) in
    let whole : h ≡ (q / 2) * (2 * n) + ((q % 2) * n + r) = by_halves q (q / 2) (q % 2) r (div-add-mod' h n) (div-add-mod' q 2) in
    by_bit (q % 2) refl bit small whole
  where
    by_halves : (q p b r : ℕ) → q * n + r ≡ h → p * 2 + b ≡ q → h ≡ p * (2 * n) + (b * n + r)
    by_halves q p b r e f =
        sym e ∙ ap (λ x. x * n + r) (sym f) ∙ ap (λ x. x + r) (add-mul (p * 2) b n ∙ ap (λ x. x + b * n) (mul_assoc p 2 n)) ∙ add_assoc (p * (2 * n)) (b * n) r

    by_bit : (b : ℕ) → h / n % 2 ≡ b → b < 2 → h % n < n → h ≡ (h / n / 2) * (2 * n) + (b * n + h % n) → (h / n % 2 == 0) ≡ is_low n h
    by_bit b e two small whole = elim (cases_lt b 1) [
      | inl lt ↦
          let z : b ≡ 0 = omega arith in
          let low : h % (2 * n) ≡ h % n = ap (λ x. x % (2 * n)) (whole ∙ ap (λ x. h / n / 2 * (2 * n) + (x * n + h % n)) z) ∙ mod-mul-add (h / n / 2) (2 * n) (0 * n + h % n) (omega arith) ∙ omega arith in
          let t : nat_lt (h % (2 * n)) n ≡ true = grind (arith, nat_tests) in
          rw (e, z, t) refl
      | inr ge ↦
          let z : b ≡ 1 = omega arith in
          let high : h % (2 * n) ≡ n + h % n = ap (λ x. x % (2 * n)) (whole ∙ ap (λ x. h / n / 2 * (2 * n) + (x * n + h % n)) z) ∙ mod-mul-add (h / n / 2) (2 * n) (1 * n + h % n) (omega arith) ∙ omega arith in
          let t : nat_lt (h % (2 * n)) n ≡ false = grind (arith, nat_tests) in
          rw (e, z, t) refl
    ]

test_low : (e h : ℕ) → (bit_at h e == 0) ≡ is_low (2 ^ e) h
test_low e h = bit_apart (2 ^ e) h (pow_pos e)

one_or_none : (b : ℕ) → b < 2 → (b == 1) ≡ not (b == 0)
one_or_none b h = elim (cases_lt b 1) [
  | inl lt ↦ let z : b ≡ 0 = omega arith in rw z refl
  | inr ge ↦ let z : b ≡ 1 = omega arith in rw z refl
]

take_all : {X : Type 0} (xs : List X) → take (length xs) xs ≡ xs
take_all [] = refl
take_all (x ∷ xs) = ap (λ l. x ∷ l) (take_all xs)

filter_alike : {X : Type 0} (p q : X → Bool) (xs : List X) → ((x : X) → p x ≡ q x) → filter p xs ≡ filter q xs
filter_alike p q [] h = refl
filter_alike p q (x ∷ xs) h = rw (h x) (ap (λ l. cond (q x) (x ∷ l) l) (filter_alike p q xs h))

module _ {K V : Type 0} where
  pub low_half : (e : ℕ) (b : List ((ℕ × K) × V)) → pairs_with_bit e 0 b ≡ half_of (2 ^ e) false b
  low_half e b = filter_alike _ _ b (λ x. test_low e x.0.0)

  pub high_half : (e : ℕ) (b : List ((ℕ × K) × V)) → pairs_with_bit e 1 b ≡ half_of (2 ^ e) true b
  high_half e b = filter_alike _ _ b (λ x. one_or_none (bit_at x.0.0 e) (mod_below (x.0.0 / 2 ^ e) 2 (omega arith)) ∙ ap not (test_low e x.0.0))

  -- ---- the table after some of its bins were halved

  -- the bins from the front on, so many of them their low halves
  abbrev pub lows : (n : ℕ) → ℕ → List (List ((ℕ × K) × V)) → List (List ((ℕ × K) × V))
  lows n zero bins = bins
  lows n (suc at) [] = []
  lows n (suc at) (b ∷ bins) = half_of n false b ∷ lows n at bins

  -- the high halves of so many bins
  abbrev pub highs : (n : ℕ) → ℕ → List (List ((ℕ × K) × V)) → List (List ((ℕ × K) × V))
  highs n at bins = map (half_of n true) (take at bins)

  pub lows_at : (n at : ℕ) (bins ys : List (List ((ℕ × K) × V))) → at < length bins → get_or (lows n at bins ++ ys) at [] ≡ get_or bins at []
  lows_at n at [] ys lt = absurd (omega arith)
  lows_at n zero (b ∷ bins) ys lt = refl
  lows_at n (suc at) (b ∷ bins) ys lt = lows_at n at bins ys (omega arith)

  lows_more : (n at : ℕ) (bins ys : List (List ((ℕ × K) × V))) → at < length bins → set (lows n at bins ++ ys) at (half_of n false (get_or bins at [])) ≡ lows n (suc at) bins ++ ys
  lows_more n at [] ys lt = absurd (omega arith)
  lows_more n zero (b ∷ bins) ys lt = refl
  lows_more n (suc at) (b ∷ bins) ys lt = ap (λ l. half_of n false b ∷ l) (lows_more n at bins ys (omega arith))

  highs_more : (n at : ℕ) (bins : List (List ((ℕ × K) × V))) → at < length bins → highs n at bins ++ (half_of n true (get_or bins at []) ∷ []) ≡ highs n (suc at) bins
  highs_more n at [] lt = absurd (omega arith)
  highs_more n zero (b ∷ bins) lt = refl
  highs_more n (suc at) (b ∷ bins) lt = ap (λ l. half_of n true b ∷ l) (highs_more n at bins (omega arith))

  -- one bin more
  pub halved_more : (n at : ℕ) (bins : List (List ((ℕ × K) × V))) → at < length bins
      → set (lows n at bins ++ highs n at bins) at (half_of n false (get_or bins at [])) ++ (half_of n true (get_or bins at []) ∷ []) ≡ lows n (at + 1) bins ++ highs n (at + 1) bins
  halved_more n at bins lt =
      rw add-one
      (ap (λ l. l ++ (half_of n true (get_or bins at []) ∷ [])) (lows_more n at bins (highs n at bins) lt)
      ∙ append_assoc (lows n (suc at) bins) (highs n at bins) (half_of n true (get_or bins at []) ∷ [])
      ∙ ap (λ l. lows n (suc at) bins ++ l) (highs_more n at bins lt))

  lows_all : (n : ℕ) (bins : List (List ((ℕ × K) × V))) → lows n (length bins) bins ≡ map (half_of n false) bins
  lows_all n [] = refl
  lows_all n (b ∷ bins) = ap (λ l. half_of n false b ∷ l) (lows_all n bins)

  -- all bins
  pub halved_all : (bins : List (List ((ℕ × K) × V))) → lows (length bins) (length bins) bins ++ highs (length bins) (length bins) bins ≡ bins_doubled bins
  halved_all bins = ap (λ l. l ++ highs (length bins) (length bins) bins) (lows_all (length bins) bins) ∙ ap (λ l. map (half_of (length bins) false) bins ++ map (half_of (length bins) true) l) (take_all bins)
