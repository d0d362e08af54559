-- The frames below the one that is gone over now.
use Rattle.std.specs.Prelude.{ℕ, ◌≤◌, List, [], ◌∷◌, length}
use Rattle.std.proofs.Common.{arith}
use Rattle.flurry_steps_sweep.specs.Cursor.{Frame, AreBelow}

module _ {K : Type 0} where
  -- they are also below a higher table
  pub below_higher : (n m : ℕ) (fs : List (Frame K)) → n ≤ m → AreBelow n fs → AreBelow m fs
  below_higher n m [] le are = tt
  below_higher n m (f ∷ fs) le (less, is, rest) = (grind (arith), is, rest)

  -- they are no more than the tables below
  pub few_below : (n : ℕ) (fs : List (Frame K)) → AreBelow n fs → length fs ≤ n
  few_below n [] are = grind (arith)
  few_below n (f ∷ fs) (less, is, rest) = let few = few_below f.table fs rest in grind (arith)
