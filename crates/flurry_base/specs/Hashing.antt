-- The hash of a key by std's hasher.
use Rattle.std.specs.Prelude.{◌≡◌, ℕ, List, Bool, true}
use Rattle.std.proofs.Common.{ap, refl, ◌∙◌}
use Rattle.std.specs.List.{fold}
use Rattle.std.specs.Hash.DefaultHasher as sip
use Rattle.std.specs.declared.cmp.Ordering.TheVariants.{Equal}
use Rattle.std.specs.Ordering.{nat_cmp, is_eq}
use Rattle.std.specs.declared.cmp.Ordering.{Ordering}
use Rattle.std.proofs.lemmas.Cmp.{ranked}
use Rattle.flurry_base.specs.declared.hash.DefaultHashBuilder.{DefaultHashBuilder}
pub use Rattle.flurry_base.specs.SeededHasher.{hasher_of_seed}

-- the seed of a builder
abbrev pub seed_of : DefaultHashBuilder → ℕ
seed_of b = b.seed

-- the hash that it gives for these writes after the seed
abbrev pub hash_with_seed : ℕ → List (List ℕ) → ℕ
hash_with_seed seed writes = sip.finish (fold sip.write (hasher_of_seed seed) writes)

pub hash_with_seed-alike : (seed : ℕ) {xs ys : List (List ℕ)} → xs ≡ ys → hash_with_seed seed xs ≡ hash_with_seed seed ys
hash_with_seed-alike seed e = ap (hash_with_seed seed) e

pub same_number : (x y : ℕ) → nat_cmp x y ≡ Equal → x ≡ y
same_number x y e = rw e at (ranked x y (nat_cmp x y) refl)

-- what `cmp` ties is equal
pub equal_from_tie : {b : Bool} {r : Ordering} → b ≡ is_eq r → r ≡ Equal → b ≡ true
equal_from_tie m e = m ∙ ap is_eq e
