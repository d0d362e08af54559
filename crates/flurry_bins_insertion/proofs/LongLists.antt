-- What one more entry does to a bin: to a list of eight, and to any other.
use Rattle.std.proofs.Common.{◌≡◌, ℕ, ap, ◌+◌, ◌<◌, ◌≤◌, arith, refl, ◌∙◌, Bool, true, false, not, ◌&&◌, ◌||◌, nat_le}
use Rattle.std.specs.Prelude.{◌==◌}
use Rattle.std.proofs.lemmas.Bool.{eqb-true}
use Rattle.std.proofs.lemmas.Bool.Decides.{nat_tests}
use Rattle.flurry_base.specs.BinSizes.{IsSized, grows_into_tree}
use Rattle.flurry_bins.proofs.BinSizes.{one_more_than_nine}

-- a list of eight takes one more
pub long_facts : (tree : Bool) (n : ℕ) → (not tree && (n == 8)) ≡ true → (tree ≡ false) × (n ≡ 8)
long_facts true n h = cc
long_facts false n h = (refl, eqb-true _ _ h)

pub long_in_large : (bins : ℕ) (old put new : Bool) (n m : ℕ) → (not old && (n == 8)) ≡ true → put ≡ (old || nat_le 9 n) → m ≡ n + 1 → new ≡ (put || nat_le 9 m) → 64 ≤ bins → new ≡ grows_into_tree bins old n
long_in_large bins old put new n m long p l k big =
    let facts = long_facts old n long in
    let large : nat_le 64 bins ≡ true = grind (arith, nat_tests) in
    let nine : m ≡ 9 = omega (arith, facts.1) in
    k ∙ rw (p, nine, facts.0, facts.1, large) refl

pub long_in_small : (bins : ℕ) (old new : Bool) (n : ℕ) → (not old && (n == 8)) ≡ true → new ≡ (old || nat_le 9 n) → bins < 64 → new ≡ grows_into_tree bins old n
long_in_small bins old new n long k small =
    let facts = long_facts old n long in
    let few : nat_le 64 bins ≡ false = grind (arith, nat_tests) in
    k ∙ rw (facts.0, facts.1, few) refl

pub kept_by_ten : (tree new : Bool) (n m : ℕ) → IsSized tree n → m ≡ n → new ≡ (tree || nat_le 10 m) → new ≡ tree
kept_by_ten true new n m h e k = k
kept_by_ten false new n m h e k = let few : nat_le 10 m ≡ false = grind (arith, nat_tests) in k ∙ few

-- one more entry in a bin that is no list of eight
pub one_more : (bins : ℕ) (tree new : Bool) (n m : ℕ) → (not tree && (n == 8)) ≡ false → m ≡ n + 1 → new ≡ (tree || nat_le 10 m) → new ≡ grows_into_tree bins tree n
one_more bins true new n m short e k = k
one_more bins false new n m short e k = k ∙ ap (nat_le 10) e ∙ one_more_than_nine n ∙ by_or (nat_le 9 n) (n == 8) (nat_le 64 bins) short
  where
    by_or : (a b c : Bool) → b ≡ false → a ≡ (a || (b && c))
    by_or true b c h = refl
    by_or false b c h = rw h refl
