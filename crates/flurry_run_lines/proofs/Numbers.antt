-- Numbers and spaces in a line.
use Rattle.std.proofs.Common.{◌≡◌, ◌≢◌, ℕ, zero, suc, ◌<◌, ◌≤◌, ◌^◌, List, [], ◌∷◌, ◌++◌, length, get_or, Ok, Err, refl, sym, ap, ◌∙◌, subst, arith}
use Rattle.std.specs.Fmt.{decimal}
use Rattle.std.specs.Str.Parse.{ParsesUnsigned, digits_value}
use Rattle.std.proofs.lemmas.Str.Parse.{IsNumeralModel, numerals_by_value, tells_by_index, parse_digits, not_in_digits}
use Rattle.std.proofs.lemmas.Fmt.{parse-decimal, decimal-digits_value, digits_decimal, first_decimal, decimal_digit}
use Rattle.flurry_run_lines.specs.Words.{HasNoSpace, IsDigits}

own : IsNumeralModel IsDigits (digits_value 10)
own = numerals_by_value IsDigits tells_by_index

-- a number has no zero in front
pub no_zero : (w : List ℕ) → 1 < length w → get_or w 0 0 ≡ 48 → (n : ℕ) → n < 2 ^ 64 → w ≡ decimal n → ⊥
no_zero w long front zero small e =
    let one = ap length (e ∙ decimal_digit 0 (omega arith)) in
    omega arith
no_zero w long front (suc n) small e =
    let above = first_decimal (suc n) (omega arith) small in
    let same : get_or w 0 0 ≡ get_or (decimal (suc n)) 0 0 = ap (λ l. get_or l 0 0) e in
    omega arith

pub only_digits : (w : List ℕ) → (IsDigits w → ⊥) → (n : ℕ) → n < 2 ^ 64 → w ≡ decimal n → ⊥
only_digits w not n small e = not (subst IsDigits (sym e) (digits_decimal own n small))

pub read_number : (E : Type 0) (w : List ℕ) (x : ℕ) → IsDigits w → (get_or w 0 0 ≡ 48 → length w ≤ 1) → ParsesUnsigned {E = E} 64 10 w (Ok x) → (x < 2 ^ 64) × (w ≡ decimal x)
read_number E w x digits front h =
    let p = parse_digits own {E = E} 64 w (Ok x) h digits in
    let canonical = decimal-digits_value own w digits p.0.0 (λ z. let l = front z in omega (arith, p.0.0)) p.0.1 in
    (subst (λ y. y < 2 ^ 64) (sym p.1) p.0.1, sym canonical ∙ ap decimal (sym p.1))

pub no_number : {E : Type 0} (w : List ℕ) (e : E) → ParsesUnsigned {E = E} 64 10 w (Err e) → (n : ℕ) → n < 2 ^ 64 → w ≡ decimal n → ⊥
no_number {E} w e h n small same = let p = parse-decimal {E = E} 64 n w (Err e) small small same h in cc

no_space_by_index : (xs : List ℕ) → ((i : ℕ) → i < length xs → get_or xs i 0 ≢ 32) → HasNoSpace xs
no_space_by_index [] h = tt
no_space_by_index (x ∷ xs) h = (h 0 (omega arith), no_space_by_index xs (λ i lt. h (suc i) (omega arith)))

-- a number has no space
pub no_space : (n : ℕ) → n < 2 ^ 64 → HasNoSpace (decimal n)
no_space n small = no_space_by_index (decimal n) (not_in_digits own (decimal n) 32 (digits_decimal own n small) (λ h. omega (arith, h)))

pub no_split : (k v : List ℕ) → HasNoSpace (k ++ 32 ∷ v) → ⊥
no_split [] v h = h.0 refl
no_split (x ∷ k) v h = no_split k v h.1

-- the first space parts a line in one way
pub split_same : (a b k v : List ℕ) → HasNoSpace a → HasNoSpace k → a ++ 32 ∷ b ≡ k ++ 32 ∷ v → (a ≡ k) × (b ≡ v)
split_same [] b [] v h k e = (refl, cc)
split_same [] b (y ∷ ys) v h k e = absurd (k.0 (cc))
split_same (x ∷ a) b [] v h k e = absurd (h.0 (cc))
split_same (x ∷ a) b (y ∷ ys) v h k e =
    let rest : a ++ 32 ∷ b ≡ ys ++ 32 ∷ v = cc in
    let first : x ≡ y = cc in
    let both = split_same a b ys v h.1 k.1 rest in
    let same = both.0 in
    (cc, both.1)
