-- The hash of a number by a hasher of the kit.
use Rattle.std.specs.Prelude.{◌≡◌, ℕ, List}
use Rattle.std.proofs.Common.{ap}
use Rattle.std.specs.List.{fold}
use Rattle.std.specs.Hash as fed
use Rattle.std.specs.Ordering.{nat_cmp}
use Rattle.std.specs.declared.cmp.Ordering.TheVariants.{Equal}
use Rattle.flurry_base.specs.Hashing.{same_number}

-- what the hasher answers after the number's writes, from a first state
abbrev pub number_hash : {H : Type 0} → (H → List ℕ → H) → (H → ℕ) → H → ℕ → ℕ
number_hash write finish start number = finish (fold write start (fed.u64 number))

pub number_hash-alike : {H : Type 0} (write : H → List ℕ → H) (finish : H → ℕ) (start : H) (x y : ℕ) → nat_cmp x y ≡ Equal → number_hash write finish start x ≡ number_hash write finish start y
number_hash-alike write finish start x y e = ap (number_hash write finish start) (same_number x y e)
