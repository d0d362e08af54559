-- How many nodes a way down a red-black tree meets.
use Rattle.std.specs.Prelude.{◌≡◌, ℕ, suc, ◌+◌, ◌-◌, ◌*◌, ◌^◌, ◌<◌, ◌≤◌, max, List, [], ◌∷◌, length}
use Rattle.std.proofs.Common.{arith, ap, sym, subst, inl, inr}
use Rattle.std.proofs.lemmas.Bool.{cases_order}
use Rattle.std.proofs.Math.Nat.{pow-suc}
use Rattle.std.proofs.lemmas.List.{length-append}
use Rattle.std.specs.declared.cmp.Ordering.{Ordering}
use Rattle.std.specs.declared.cmp.Ordering.TheVariants.{Less, Equal, Greater}
use Rattle.std.specs.Ordering.{match_ordering}
use Rattle.std.specs.Int.Digits.{digits_of}
use Rattle.std.proofs.lemmas.Int.Digits.{number_digits_of, number_lt, all_below_base_digits_of}
use Rattle.std.proofs.Math.Pow.{pow_mono}
use Rattle.flurry_base.specs.declared.sizes.TheConstants.{MAX_LIST_LEN}
use Rattle.flurry_bins.specs.declared.bin.entry.Entry.{Entry}
use Rattle.flurry_bins.specs.declared.bin.node.Colour.{Colour}
use Rattle.flurry_bins.specs.declared.bin.node.Colour.TheVariants.{Red, Black}
use Rattle.flurry_bins.specs.Entries.{place_cmp}
use Rattle.flurry_bins.specs.Tree.{Tree, leaf, fork, inorder, redness, root_redness, black_height, IsRedBlack, tree_way}

-- the most nodes that a look-up meets in a bin of n nodes: those of the longest list, or twice the binary digits of n + 1
abbrev pub way_bound : ℕ → ℕ
way_bound n = max MAX_LIST_LEN (2 * length (digits_of 2 (n + 1)))

red_or_black : (c : Colour) → redness c ≤ 1
red_or_black Red = omega arith
red_or_black Black = omega arith

root_red_or_black : {E : Type 0} (t : Tree E) → root_redness t ≤ 1
root_red_or_black leaf = omega arith
root_red_or_black (fork c l e r) = red_or_black c

way_by : {E : Type 0} (r : Ordering) (e : E) (xs ys : List E) (n : ℕ) → length xs ≤ n → length ys ≤ n → length (e ∷ match_ordering r xs [] ys) ≤ n + 1
way_by Less e xs ys n h k = omega arith
way_by Equal e xs ys n h k = omega arith
way_by Greater e xs ys n h k = omega arith

-- a way has at most twice as many nodes as black ones, and one more under a red root
pub way_by_blacks : {K V A : Type 0} (cmp : K → K → Ordering) (h : ℕ) (k : K) (t : Tree (Entry K V A)) → IsRedBlack t → length (tree_way cmp h k t) ≤ 2 * black_height t + root_redness t
way_by_blacks cmp h k leaf b = omega arith
way_by_blacks cmp h k (fork c l e r) b =
    let left = way_by_blacks cmp h k l b.0 in
    let right = way_by_blacks cmp h k r b.1.0 in
    let same = b.1.1.0 in
    let at_left = b.1.1.1.0 in
    let at_right = b.1.1.1.1 in
    let one = way_by (place_cmp cmp h k e) e (tree_way cmp h k l) (tree_way cmp h k r) (2 * black_height l + (1 - redness c)) (omega arith) (omega arith) in
    omega (arith, red_or_black c)

-- so many black nodes need a tree of twice the size
pub size_by_blacks : {E : Type 0} (t : Tree E) → IsRedBlack t → 2 ^ black_height t ≤ length (inorder t) + 1
size_by_blacks leaf b = omega arith
size_by_blacks (fork Red l e r) b =
    let same : black_height l ≡ black_height (fork Red l e r) = omega arith in
    let left = size_by_blacks l b.0 in
    subst (λ n. 2 ^ n ≤ length (inorder (fork Red l e r)) + 1) same (omega (arith, length-append (inorder l) (e ∷ inorder r)))
size_by_blacks (fork Black l e r) b =
    let left = size_by_blacks l b.0 in
    let right = subst (λ n. 2 ^ n ≤ length (inorder r) + 1) (sym b.1.1.0) (size_by_blacks r b.1.0) in
    let higher : suc (black_height l) ≡ black_height (fork Black l e r) = omega arith in
    let twice : 2 ^ suc (black_height l) ≡ 2 ^ black_height l * 2 = pow-suc 2 (black_height l) in
    subst (λ n. 2 ^ n ≤ length (inorder (fork Black l e r)) + 1) higher (omega (arith, length-append (inorder l) (e ∷ inorder r)))

less_by_powers : (i j n : ℕ) → 2 ^ i ≤ n → n < 2 ^ j → i < j
less_by_powers i j n h k =
    elim (cases_order i j) [
      | inl e ↦ absurd (omega (arith, ap (λ m. 2 ^ m) e))
      | inr (inl l) ↦ l
      | inr (inr m) ↦ let le : j ≤ i = omega arith in absurd (omega (arith, pow_mono le))
    ]

pub way_within : {K V A : Type 0} (cmp : K → K → Ordering) (h : ℕ) (k : K) (t : Tree (Entry K V A)) → IsRedBlack t → length (tree_way cmp h k t) ≤ way_bound (length (inorder t))
way_within cmp h k t b =
    let n = length (inorder t) + 1 in
    let ds = digits_of 2 n in
    let two : 2 ≤ 2 = omega arith in
    let fits : n < 2 ^ length ds = rw (number_digits_of 2 n two) at (number_lt 2 ds (all_below_base_digits_of 2 n two)) in
    let few = less_by_powers (black_height t) (length ds) n (size_by_blacks t b) fits in
    omega (arith, way_by_blacks cmp h k t b, root_red_or_black t)
