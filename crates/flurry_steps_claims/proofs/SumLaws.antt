-- Sums over lists, and over the numbers below a bound.
use Rattle.std.proofs.Common.{◌≡◌, ℕ, zero, suc, ◌+◌, ◌<◌, ◌≤◌, ◌⊎◌, Bool, cond, eqb, ltb, List, [], ◌∷◌, length, set, refl, sym, ap, ◌∙◌, ⊎_elim, arith, sum_by}
use Rattle.std.proofs.lemmas.Bool.Decides.{nat_tests}
use Rattle.std.proofs.lemmas.List.Sums.{sum_by-cons}
use mathlib.Core.Option.{some, some-injective, some-ne-none}
use lib.ListN.{get_elem?}
use Rattle.flurry_steps_claims.specs.declared.seat_notes.SeatNotes.{SeatNotes}
use Rattle.flurry_base.specs.Occurrences.{occurrences}
use Rattle.flurry_steps_claims.specs.BoardRule.{report_count}

module _ {X : Type 0} (f : X → ℕ) where
  -- one item changes
  pub sum_set : (xs : List X) (i : ℕ) (x y : X) → get_elem? xs i ≡ some x → sum_by f (set xs i y) + f x ≡ sum_by f xs + f y
  sum_set [] i x y e = absurd (some-ne-none x (sym e))
  sum_set (z ∷ zs) zero x y e =
      let is : f z ≡ f x = ap f (some-injective z x e) in
      omega (arith, sum_by-cons f y zs, sum_by-cons f z zs)
  sum_set (z ∷ zs) (suc i) x y e =
      let h = sum_set zs i x y e in
      omega (arith, sum_by-cons f z (set zs i y), sum_by-cons f z zs)

  pub item_le : (xs : List X) (i : ℕ) (x : X) → get_elem? xs i ≡ some x → f x ≤ sum_by f xs
  item_le [] i x e = absurd (some-ne-none x (sym e))
  item_le (z ∷ zs) zero x e = let is : f z ≡ f x = ap f (some-injective z x e) in omega (arith, sum_by-cons f z zs)
  item_le (z ∷ zs) (suc i) x e = let rest = item_le zs i x e in omega (arith, sum_by-cons f z zs)

module _ {X : Type 0} (f g : X → ℕ) where
  pub sum_le : (xs : List X) → ((i : ℕ) (x : X) → get_elem? xs i ≡ some x → f x ≤ g x) → sum_by f xs ≤ sum_by g xs
  sum_le [] h = omega arith
  sum_le (x ∷ xs) h =
      let here = h 0 x refl in
      let rest = sum_le xs (λ i y e. h (suc i) y e) in
      omega (arith, sum_by-cons f x xs, sum_by-cons g x xs)

  pub sum_lt : (xs : List X) → ((i : ℕ) (x : X) → get_elem? xs i ≡ some x → f x ≤ g x) → (i : ℕ) (x : X) → get_elem? xs i ≡ some x → f x < g x → sum_by f xs < sum_by g xs
  sum_lt [] h i x e less = absurd (some-ne-none x (sym e))
  sum_lt (y ∷ ys) h zero x e less =
      let a : f y ≡ f x = ap f (some-injective y x e) in
      let b : g y ≡ g x = ap g (some-injective y x e) in
      let rest = sum_le ys (λ i z e'. h (suc i) z e') in
      omega (arith, sum_by-cons f y ys, sum_by-cons g y ys)
  sum_lt (y ∷ ys) h (suc i) x e less =
      let here = h 0 y refl in
      let rest = sum_lt ys (λ j z e'. h (suc j) z e') i x e less in
      omega (arith, sum_by-cons f y ys, sum_by-cons g y ys)

abbrev pub bit : Bool → ℕ
bit b = cond b 1 0

-- the sum of f over the numbers below n
abbrev pub up_to : (ℕ → ℕ) → ℕ → ℕ
up_to f zero = 0
up_to f (suc n) = up_to f n + f n

up_to_zero : (n : ℕ) → up_to (λ k. 0) n ≡ 0
up_to_zero zero = refl
up_to_zero (suc n) = let h = up_to_zero n in omega arith

up_to_sum : (f g h : ℕ → ℕ) (n : ℕ) → ((k : ℕ) → f k ≡ g k + h k) → up_to f n ≡ up_to g n + up_to h n
up_to_sum f g h zero e = refl
up_to_sum f g h (suc n) e = let here = e n in let rest = up_to_sum f g h n e in omega arith

up_to_one : (x n : ℕ) → x < n → up_to (λ k. bit (eqb x k)) n ≡ 1
up_to_one x n less = below n ∙ one n less
  where
    one : (m : ℕ) → x < m → bit (ltb x m) ≡ 1
    one m h = grind (arith, nat_tests)

    step : (m : ℕ) → bit (ltb x m) + bit (eqb x m) ≡ bit (ltb x (suc m))
    step m = grind (arith, nat_tests)

    none_yet : bit (ltb x 0) ≡ 0
    none_yet = grind (arith, nat_tests)

    below : (m : ℕ) → up_to (λ k. bit (eqb x k)) m ≡ bit (ltb x m)
    below zero = sym none_yet
    below (suc m) = ap (λ a. a + bit (eqb x m)) (below m) ∙ step m

pub up_to_le : (f : ℕ → ℕ) (n : ℕ) → ((k : ℕ) → f k ≤ 1) → up_to f n ≤ n
up_to_le f zero h = omega arith
up_to_le f (suc n) h = let here = h n in let rest = up_to_le f n h in omega arith

pub up_to_lacks : (f : ℕ → ℕ) (n k : ℕ) → ((j : ℕ) → f j ≤ 1) → k < n → f k ≡ 0 → up_to f n < n
up_to_lacks f zero k h less none = absurd (omega arith)
up_to_lacks f (suc n) k h less none = ⊎_elim
    (λ (low : k < n). let rest = up_to_lacks f n k h low none in let here = h n in omega arith)
    (λ (last : k ≡ n). let here : f n ≡ 0 = ap f (sym last) ∙ none in let rest = up_to_le f n h in omega arith)
    (split)
  where
    split : (k < n) ⊎ (k ≡ n)
    split = grind arith

pub up_to_ones : (f : ℕ → ℕ) (n : ℕ) → ((k : ℕ) → k < n → f k ≡ 1) → up_to f n ≡ n
up_to_ones f zero h = refl
up_to_ones f (suc n) h = let here = h n (omega arith) in let rest = up_to_ones f n (λ k less. h k (omega arith)) in omega arith

-- the numbers of a list, counted by their values
times_all : (xs : List ℕ) (n : ℕ) → ((k : ℕ) → n ≤ k → occurrences k xs ≡ 0) → up_to (λ k. occurrences k xs) n ≡ length xs
times_all [] n h = up_to_zero n
times_all (x ∷ xs) n h =
    let parts = λ (k : ℕ). sum_by-cons (λ (y : ℕ). bit (eqb y k)) x xs in
    let rest = times_all xs n (λ k above. let a = h k above in let b = parts k in omega arith) in
    let sums = up_to_sum (λ k. occurrences k (x ∷ xs)) (λ k. bit (eqb x k)) (λ k. occurrences k xs) n parts in
    let one = up_to_one x n (low x xs n h) in
    omega arith
  where
    here : (y : ℕ) → bit (eqb y y) ≡ 1
    here y = grind (arith, nat_tests)

    low : (y : ℕ) (ys : List ℕ) (m : ℕ) → ((k : ℕ) → m ≤ k → occurrences k (y ∷ ys) ≡ 0) → y < m
    low y ys m none = grind (arith, none y, sum_by-cons (λ (z : ℕ). bit (eqb z y)) y ys, here y)

-- the reports of all seats, counted by their numbers
pub reports_all : (seats : List SeatNotes) (n : ℕ) → ((k : ℕ) → n ≤ k → report_count k seats ≡ 0) → up_to (λ k. report_count k seats) n ≡ sum_by (λ (v : SeatNotes). length v.reports) seats
reports_all [] n h = up_to_zero n
reports_all (v ∷ vs) n h =
    let parts = λ (k : ℕ). sum_by-cons (λ (u : SeatNotes). occurrences k u.reports) v vs in
    let rest = reports_all vs n (λ k above. let a = h k above in let b = parts k in omega arith) in
    let first = times_all v.reports n (λ k above. let a = h k above in let b = parts k in omega arith) in
    let sums = up_to_sum (λ k. report_count k (v ∷ vs)) (λ k. occurrences k v.reports) (λ k. report_count k vs) n parts in
    let all = sum_by-cons (λ (u : SeatNotes). length u.reports) v vs in
    omega arith
