-- Laws of lists and trees, and of how many entries they have.
use Rattle.std.proofs.Common.{◌≡◌, ℕ, ◌+◌, ◌<◌, ◌≤◌, arith, refl, Bool, true, false, ◌&&◌, ◌||◌, nat_le, inl, inr, List, length}
use Rattle.std.specs.Prelude.{◌==◌}
use Rattle.std.proofs.lemmas.Bool.Decides.{leb_tells, nat_tests}
use Rattle.std.specs.List.{filter}
use Rattle.std.proofs.lemmas.List.Sums.{length-filter, count_by-le-length}
use Rattle.flurry_base.specs.BinSizes.{IsSized, grows_into_tree}

-- one more entry, where a list of nine is made a tree first
pub IsSized-grown : (tree : Bool) (n m : ℕ) → IsSized tree n → m ≡ n + 1 → IsSized (tree || nat_le 9 n) m
IsSized-grown true n m h e = omega arith
IsSized-grown false n m h e =
    elim (leb_tells 9 n) [
      | inl t ↦ rw t.0 (omega arith)
      | inr f ↦ rw f.0 (omega arith)
    ]

-- no more entries, where a tree of six is a list
pub IsSized-kept : (tree : Bool) (n m : ℕ) → IsSized tree n → m ≤ n → IsSized (tree && nat_le 7 m) m
IsSized-kept true n m h le =
    elim (leb_tells 7 m) [
      | inl t ↦ rw t.0 (omega arith)
      | inr f ↦ rw f.0 (omega arith)
    ]
IsSized-kept false n m h le = omega arith

pub filter_no_longer : {X : Type 0} (p : X → Bool) (xs : List X) → length (filter p xs) ≤ length xs
filter_no_longer p xs = omega (arith, length-filter p xs, count_by-le-length p xs)

-- one more entry in a bin of a table
pub IsSized-put : (bins : ℕ) (tree : Bool) (n m : ℕ) → IsSized tree n → m ≡ n + 1 → IsSized (grows_into_tree bins tree n) m
IsSized-put bins true n m h e = omega arith
IsSized-put bins false n m h e = elim (leb_tells 9 n) [
  | inl t ↦ rw t.0 (omega arith)
  | inr f ↦ rw f.0 (by_eight f.1 (n == 8) refl (nat_le 64 bins))
]
  where
    by_eight : n < 9 → (b : Bool) → (n == 8) ≡ b → (c : Bool) → IsSized (b && c) m
    by_eight few true p true = let same : n ≡ 8 = grind (arith, nat_tests) in omega arith
    by_eight few true p false = omega arith
    by_eight few false p c = omega arith
