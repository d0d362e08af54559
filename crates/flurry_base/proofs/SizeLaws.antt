-- Laws of the sizes.
use Rattle.std.proofs.Common.{◌≡◌, ℕ, zero, suc, ◌+◌, ◌*◌, ◌/◌, ◌^◌, ◌<◌, ◌≤◌, length, true, false, refl, sym, ap, ◌∙◌, pow-suc, mul_assoc, mul_comm, arith, inl, inr}
use Rattle.std.specs.Prelude.{nat_le}
use Rattle.std.specs.Int.{IsNextPowerOfTwo}
use Rattle.std.specs.Int.Digits.{digits_of}
use Rattle.std.proofs.lemmas.Bool.{cases_lt}
use Rattle.std.proofs.lemmas.Bool.Decides.{nat_tests}
use Rattle.std.proofs.lemmas.Int.Digits.{number_digits_of, number_lt, all_below_base_digits_of, length-digits_of-le}
use Rattle.std.proofs.Math.Pow.{pow_mono}
use Rattle.flurry_base.specs.Sizes.{wanted_of, IsTooSmall, IsOnTheWay}

pub wanted_of-most : (s : ℕ) → 2 ^ 29 ≤ s → wanted_of s ≡ 2 ^ 30
unfolding wanted_of
wanted_of-most s h =
    let t : nat_le (2 ^ 29) s ≡ true = grind (arith, nat_tests) in
    rw t refl

pub wanted_of-less : (s : ℕ) → s < 2 ^ 29 → wanted_of s ≡ 2 ^ length (digits_of 2 (s + s / 2))
unfolding wanted_of
wanted_of-less s h =
    let t : nat_le (2 ^ 29) s ≡ false = grind (arith, nat_tests) in
    rw t refl

-- a number is below 2 to the number of its binary digits
below_power : (n : ℕ) → n < 2 ^ length (digits_of 2 n)
below_power n =
    let two : 2 ≤ 2 = omega arith in
    rw (number_digits_of 2 n two) at (number_lt 2 (digits_of 2 n) (all_below_base_digits_of 2 n two))

-- so many binary digits has a number from half the power on
digits_by : (k n : ℕ) → n < 2 ^ k → 2 ^ k / 2 < n + 1 → length (digits_of 2 n) ≡ k
digits_by zero n low high =
    let few = length-digits_of-le 2 zero n (omega arith) low in
    omega arith
digits_by (suc k) n low high =
    let few = length-digits_of-le 2 (suc k) n (omega arith) low in
    elim (cases_lt (length (digits_of 2 n)) (suc k)) [
      | inl less ↦
          let m : 2 ^ length (digits_of 2 n) ≤ 2 ^ k = pow_mono (omega arith) in
          absurd (omega (arith, m, below_power n, pow-suc 2 k))
      | inr ge ↦ omega arith
    ]

pub wanted_of-next : (s r : ℕ) → s < 2 ^ 29 → IsNextPowerOfTwo (s + s / 2 + 1) r → r ≡ wanted_of s
wanted_of-next s r less p =
    let k = p.0.0 in
    let is : r ≡ 2 ^ k = p.0.1 in
    let low : s + s / 2 < 2 ^ k = omega arith in
    let high : 2 ^ k / 2 < s + s / 2 + 1 = let h = rw is at p.2 in omega arith in
    is ∙ ap (λ n. 2 ^ n) (sym (digits_by k (s + s / 2) low high)) ∙ sym (wanted_of-less s less)

-- ---- doublings on the way

pub way_start : (n w : ℕ) → IsOnTheWay n w n
way_start n w = (0, omega arith, λ i h. absurd (omega arith))

pub way_more : (n w m : ℕ) → IsTooSmall m w → IsOnTheWay n w m → IsOnTheWay n w (2 * m)
way_more n w m small (j, is, before) = (
  suc j,
  rw (is, pow-suc) (sym (mul_comm_left n (2 ^ j))),
  λ i h. elim (cases_lt i j) [
    | inl lt ↦ before i lt
    | inr ge ↦ let same : i ≡ j = omega arith in rw (same, ← is) small
  ],
)
  where
    mul_comm_left : (n p : ℕ) → n * (p * 2) ≡ 2 * (n * p)
    mul_comm_left n p = sym (mul_assoc n p 2) ∙ mul_comm (n * p) 2
