-- How many entries a bin has: one more, no fewer, and the shape of a list.
use Rattle.std.proofs.Common.{◌≡◌, ℕ, List, ◌∷◌, length, ap, ◌+◌, ◌<◌, ◌≤◌, arith, refl, ◌∙◌, Bool, true, false, not, ◌&&◌, ◌||◌, nat_le, inl, inr}
use Rattle.std.specs.Prelude.{◌==◌}
use Rattle.std.proofs.lemmas.Bool.{eqb-true}
use Rattle.std.proofs.lemmas.Bool.Decides.{leb_tells, nat_tests}
use Rattle.flurry_base.specs.BinSizes.{IsSized, grows_into_tree}
use Rattle.flurry_bins.specs.Bin.{shape_by}
use Rattle.flurry_bins.specs.declared.bin.adaptive.Shape.TheVariants as shape

pub one_more_than_nine : (n : ℕ) → nat_le 10 (n + 1) ≡ nat_le 9 n
one_more_than_nine n = grind (arith, nat_tests)

-- no fewer entries, where a list of more than nine is made a tree
pub sized_by_ten : (tree : Bool) (n m : ℕ) → IsSized tree n → n ≤ m → IsSized (tree || nat_le 10 m) m
sized_by_ten true n m h le = omega arith
sized_by_ten false n m h le = elim (leb_tells 10 m) [
  | inl t ↦ rw t.0 (omega arith)
  | inr f ↦ rw f.0 (omega arith)
]

-- n entries of which e is the first
pub shape_of_nodes : {X : Type 0} {n : ℕ} {xs es : List X} {e : X} → n ≡ length xs → xs ≡ e ∷ es → shape.List n ≡ shape_by false (length xs)
shape_of_nodes {xs = xs} p q =
    let longer = ap length q in
    let some : (length xs == 0) ≡ false = grind (arith, nat_tests) in
    rw (p, some) refl
