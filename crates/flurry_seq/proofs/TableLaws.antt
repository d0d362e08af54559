-- The exponent of a table's size.
use Rattle.std.proofs.Common.{◌≡◌, ℕ, suc, ◌*◌, ◌^◌, ◌<◌, ◌≤◌, ap, sym, ◌∙◌, arith, inl, inr, pow-suc}
use Rattle.std.proofs.lemmas.Bool.{cases_order}
use Rattle.std.proofs.lemmas.Nat.{pow_pos}
use Rattle.std.proofs.Math.Pow.{pow_mono}
use Rattle.flurry_base.specs.declared.sizes.TheConstants.{MAX_TABLE}
use Rattle.flurry_seq.specs.Invariant.{IsTableSize}

same_power : (r e : ℕ) → 2 ^ r ≤ 2 ^ e → 2 ^ e < 2 * 2 ^ r → r ≡ e
same_power r e low high = elim (cases_order r e) [
  | inl same ↦ same
  | inr (inl less) ↦ let m : 2 ^ suc r ≤ 2 ^ e = pow_mono (omega arith) in absurd (omega (arith, m, pow-suc 2 r))
  | inr (inr more) ↦ let m : 2 ^ suc e ≤ 2 ^ r = pow_mono (omega arith) in absurd (omega (arith, m, pow-suc 2 e, pow_pos e))
]

-- a size between a power of two and twice that is that power, at most 2^30
pub size_power : (n r : ℕ) → IsTableSize n → 0 < n → 2 ^ r ≤ n → n < 2 * 2 ^ r → (r ≤ MAX_TABLE) × (n ≡ 2 ^ r)
size_power n r (inl none) some low high = absurd (omega arith)
size_power n r (inr (e, small, is)) some low high =
    let same : r ≡ e = same_power r e (rw is at low) (rw is at high) in
    (omega arith, is ∙ ap (λ x. 2 ^ x) (sym same))
