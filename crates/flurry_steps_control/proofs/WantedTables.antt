-- The exponent of the table for so many pairs.
use Rattle.std.proofs.Common.{◌≡◌, ℕ, suc, ◌+◌, ◌*◌, ◌/◌, ◌^◌, ◌<◌, ◌≤◌, length, arith, ap, sym, ◌∙◌, inl, inr, lit≤}
use Rattle.std.specs.Int.Digits.{digits_of}
use Rattle.std.proofs.lemmas.Bool.{cases_lt, cases_order}
use Rattle.std.proofs.lemmas.Int.Digits.{length-digits_of-le}
use Rattle.std.proofs.lemmas.Nat.{pow_pos}
use Rattle.std.proofs.Math.Nat.{pow-suc}
use Rattle.std.proofs.Math.Pow.{pow_mono}
use Rattle.flurry_base.specs.Sizes.{wanted_of}
use Rattle.flurry_base.proofs.SizeLaws.{wanted_of-less, wanted_of-most}
use Rattle.flurry_base.specs.declared.sizes.TheConstants.{MAX_TABLE}

-- a power of two between a power of two and twice that is the lower one
same_power : (r e : ℕ) → 2 ^ r ≤ 2 ^ e → 2 ^ e < 2 * 2 ^ r → r ≡ e
same_power r e low high = elim (cases_order r e) [
  | inl same ↦ same
  | inr (inl less) ↦ let m : 2 ^ suc r ≤ 2 ^ e = pow_mono (omega arith) in absurd (omega (arith, m, pow-suc 2 r))
  | inr (inr more) ↦ let m : 2 ^ suc e ≤ 2 ^ r = pow_mono (omega arith) in absurd (omega (arith, m, pow-suc 2 e, pow_pos e))
]

-- the bins that are wanted are a power of two, at most 2^30
wanted_power : (s : ℕ) → (e : ℕ) × (e ≤ MAX_TABLE) × (wanted_of s ≡ 2 ^ e)
wanted_power s = elim (cases_lt s (2 ^ 29)) [
  | inl lt ↦ (length (digits_of 2 (s + s / 2)), length-digits_of-le 2 MAX_TABLE (s + s / 2) (lit≤ tt) (omega arith), wanted_of-less s lt)
  | inr ge ↦ (MAX_TABLE, lit≤ tt, wanted_of-most s ge)
]

-- the bins that are wanted, between a power of two and twice that, are that power
pub wanted_number : (s r : ℕ) → 2 ^ r ≤ wanted_of s → wanted_of s < 2 * 2 ^ r → (r ≤ MAX_TABLE) × (2 ^ r ≡ wanted_of s)
wanted_number s r low high =
    let (e, small, is) = wanted_power s in
    let same : r ≡ e = same_power r e (rw is at low) (rw is at high) in
    (omega arith, ap (λ x. 2 ^ x) same ∙ sym is)
