-- Laws of the regions of hashes.
use Rattle.std.proofs.Common.{◌≡◌, ℕ, ◌+◌, ◌*◌, ◌/◌, ◌%◌, ◌^◌, true, arith, add-one, lit<}
use Rattle.std.specs.Prelude.{◌==◌}
use Rattle.std.specs.Int.{bit_at}
use Rattle.std.proofs.Math.Nat.{pow-succ'}
use Rattle.std.proofs.Math.Arith.{mod-mul}
use Rattle.std.proofs.lemmas.Nat.{pow_pos}
use Rattle.std.proofs.lemmas.Bool.{eqb-true}
use Rattle.flurry_base.specs.HashOrder.{InRegion}

two_pow_next : (e : ℕ) → 2 ^ (e + 1) ≡ 2 * 2 ^ e
two_pow_next e = rw add-one (pow-succ' 2 e)

mod_next : (e h : ℕ) → h % (2 ^ (e + 1)) ≡ (h / 2 ^ e % 2) * 2 ^ e + h % 2 ^ e
mod_next e h = rw two_pow_next (mod-mul h {m = 2} {c = 2 ^ e} (lit< tt) (pow_pos e))

-- a hash whose bit e is 0 lies at the same index in the next larger table, and one whose bit is 1 as many bins further on
pub region_low : (e i h : ℕ) → InRegion e i h → (bit_at h e == 0) ≡ true → InRegion (e + 1) i h
region_low e i h p q = let zero : h / 2 ^ e % 2 ≡ 0 = eqb-true _ _ q in rw (mod_next, zero, p) (omega arith)

pub region_high : (e i h : ℕ) → InRegion e i h → (bit_at h e == 1) ≡ true → InRegion (e + 1) (i + 2 ^ e) h
region_high e i h p q = let one : h / 2 ^ e % 2 ≡ 1 = eqb-true _ _ q in rw (mod_next, one, p) (omega arith)
