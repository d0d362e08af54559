-- The ranges cut a table, and follow one another.
use Rattle.std.proofs.Common.{◌≡◌, ℕ, ◌+◌, ◌-◌, ◌*◌, ◌/◌, ◌%◌, ◌^◌, ◌<◌, ◌≤◌, ◌↔◌, arith, ⊎_elim, ◌⊎◌, mul-le-mul_right, le-div_iff_mul-le, mod-lt}
use Rattle.std.proofs.lemmas.Nat.{div-add-mod'}
use Rattle.flurry_steps_claims.specs.Range.{IsNumber, LiesIn, CutsTable, range_at, range_count}

next_multiple : (k s : ℕ) → (k + 1) * s ≡ k * s + s
next_multiple k s = omega arith

-- no bin lies in a range and in one of a greater number
not_above : (e s i j k : ℕ) → LiesIn e s j i → LiesIn e s k i → j < k → ⊥
not_above e s i j k a b less =
    let up : (j + 1) * s ≤ k * s = mul-le-mul_right s (omega arith) in
    let n : ℕ = 2 ^ e in
    let x : ℕ = (j + 1) * s in
    let y : ℕ = k * s in
    let p : n - x ≤ i = a.0 in
    let q : i < n - y = b.1 in
    let r : x ≤ y = up in
    omega arith

-- the range of a bin
range_of_bin : (e s i : ℕ) → 0 < s → i < 2 ^ e → (k : ℕ) × IsNumber e s k × LiesIn e s k i
range_of_bin e s i positive below =
    let n : ℕ = 2 ^ e in
    let inside : i < n = below in
    let m : ℕ = n - 1 - i in
    let k : ℕ = m / s in
    let whole : m / s * s + m % s ≡ m = div-add-mod' m s in
    let rest : m % s < s = mod-lt m positive in
    let x : ℕ = k * s in
    let up : (k + 1) * s ≡ x + s = next_multiple k s in
    (k, omega arith, (omega arith, omega arith))

-- the numbers are those below the count
pub numbers : (e s : ℕ) → 0 < s → (k : ℕ) → IsNumber e s k ↔ (k < range_count e s)
numbers e s positive k =
    let n : ℕ = 2 ^ e in
    let both = le-div_iff_mul-le {k = s} {x = k + 1} {y = n + (s - 1)} positive in
    let up = next_multiple k s in
    ((λ below. let h : k + 1 ≤ (n + (s - 1)) / s = both.1 (omega arith) in omega arith), (λ less. let h : (k + 1) * s ≤ n + (s - 1) = both.0 (omega arith) in omega arith))

pub cuts : (e s : ℕ) → CutsTable e s
cuts e s positive = ((λ i below. range_of_bin e s i positive below), only, numbers e s positive)
  where
    only : (i j k : ℕ) → LiesIn e s j i → LiesIn e s k i → j ≡ k
    only i j k a b = ⊎_elim
        (λ (less : j < k). absurd (not_above e s i j k a b less))
        (λ (rest : (j ≡ k) ⊎ (k < j)). ⊎_elim (λ (same : j ≡ k). same) (λ (more : k < j). absurd (not_above e s i k j b a more)) rest)
        three
      where
        three : (j < k) ⊎ ((j ≡ k) ⊎ (k < j))
        three = grind arith

-- a range ends a stride above its first bin, or at most so
pub low_of : (e s k : ℕ) → (range_at e s k).low ≡ (range_at e s k).high - s
low_of e s k =
    let n : ℕ = 2 ^ e in
    let x : ℕ = k * s in
    let up : (k + 1) * s ≡ x + s = next_multiple k s in
    omega arith
