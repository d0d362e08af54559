-- A table that is made for its pairs is doubled only where keys share a bin.
use Rattle.std.proofs.Common.{◌≡◌, ℕ, zero, suc, ◌+◌, ◌-◌, ◌*◌, ◌/◌, ◌^◌, ◌<◌, ◌≤◌, ◌⊎◌, Bool, true, false, not, cond, List, [], ◌∷◌, ◌++◌, length, Option, Some, None, IsSome, Result, Ok, Err, OnOk, OnErr, lit≤, refl, sym, ap, ◌∙◌, subst, inl, inr, mul_assoc, arith}
use Rattle.std.specs.Prelude.{◌==◌, IsTrue}
use Rattle.std.specs.Option.{IsNone}
use Rattle.std.specs.Result.{is_err}
use Rattle.std.proofs.lemmas.List.{length-append}
use Rattle.std.specs.Int.Digits.{digits_of}
use Rattle.std.proofs.lemmas.Bool.{cases_lt}
use Rattle.std.proofs.lemmas.Bool.Decides.{nat_tests}
use Rattle.std.proofs.lemmas.Int.Digits.{number_digits_of, number_lt, all_below_base_digits_of, length-digits_of-le}
use Rattle.std.proofs.lemmas.Nat.{pow_pos, pow-add}
use Rattle.std.proofs.Math.Nat.{le-mul_of_pos_right}
use Rattle.std.proofs.Math.Pow.{pow_mono}
use Rattle.flurry_base.specs.BinSizes.{asks_for_growth}
use Rattle.flurry_base.specs.Sizes.{wanted_of, threshold_of, IsTooSmall, IsOnTheWay}
use Rattle.flurry_base.proofs.SizeLaws.{wanted_of-less, wanted_of-most, way_start}
use Rattle.flurry_seq.specs.Contents.{Contents, contents, first_bins}
use Rattle.flurry_seq.specs.Growth.{bins_for, IsTableFrom, IsTableAfter, HasRoom}
use Rattle.flurry_seq.specs.Invariant.{IsTableSize}
use Rattle.flurry_seq.proofs.GrowthLemmas.{wanted_some}
use Rattle.flurry_base.specs.declared.sizes.TheConstants.{FIRST_BINS, MAX_TABLE}

-- ---- doublings

pub way_up : (n w v m : ℕ) → w ≤ v → IsOnTheWay n w m → IsOnTheWay n v m
way_up n w v m le (j, is, before) = (j, is, λ i h. (let low = (before i h).0 in omega (arith, low), (before i h).1))

way_on : (n w b m : ℕ) → IsOnTheWay n w b → IsOnTheWay b w m → IsOnTheWay n w m
way_on n w b m (j, is, before) (k, next, after) = (
  j + k,
  next ∙ ap (λ x. x * 2 ^ k) is ∙ mul_assoc n (2 ^ j) (2 ^ k) ∙ ap (λ x. n * x) (sym (pow-add 2 j k)),
  λ i h. elim (cases_lt i j) [
    | inl lt ↦ before i lt
    | inr ge ↦
        let whole : j + (i - j) ≡ i = omega arith in
        let at : b * 2 ^ (i - j) ≡ n * 2 ^ i = ap (λ x. x * 2 ^ (i - j)) is ∙ mul_assoc n (2 ^ j) (2 ^ (i - j)) ∙ ap (λ x. n * x) (sym (pow-add 2 j (i - j)) ∙ ap (λ x. 2 ^ x) whole) in
        subst (λ x. IsTooSmall x w) at (after (i - j) (omega arith))
  ],
)

-- where a table of n bins was to become one of m on the way to w, and stays where that is refused, it is on the way
pub way_left : {A E K V S : Type 0} (r : Result A E) (w m : ℕ) (old new : Contents K V S) → IsOnTheWay old.bins w m → OnOk r (new ≡ contents old.pairs m old.hasher) → OnErr r (new ≡ old) → IsOnTheWay old.bins w new.bins
way_left (Ok a) w m old new way ok err = rw ok way
way_left (Err e) w m old new way ok err = rw err (way_start old.bins w)

way_larger : (n w m : ℕ) → IsOnTheWay n w m → n ≤ m
way_larger n w m (j, is, before) = let more : n ≤ n * 2 ^ j = le-mul_of_pos_right n (pow_pos j) in omega arith

-- a table that is large enough for the count is not doubled by it
no_way : (b count m : ℕ) → IsOnTheWay b (count + 1) m → (count < threshold_of b) ⊎ (2 ^ MAX_TABLE ≤ b) → m ≡ b
no_way b count m (zero, is, before) enough = omega arith
no_way b count m (suc j, is, before) enough =
    let one : b * 2 ^ 0 ≡ b = omega arith in
    let small : IsTooSmall b (count + 1) = subst (λ x. IsTooSmall x (count + 1)) one (before 0 (omega arith)) in
    elim enough [
      | inl lt ↦ absurd (omega (arith, small.0))
      | inr ge ↦ absurd (omega (arith, small.1))
    ]

-- ---- what is asked for

-- a bin asks for a larger table where a list has eight entries, in a table of fewer than 64 bins
pub asks_true : (bins n : ℕ) (tree : Bool) → asks_for_growth bins tree n ≡ true → (bins < 64) × (n ≡ 8)
asks_true bins n true asks = cc
asks_true bins n false asks = grind (arith, nat_tests)

small_size : (n : ℕ) → IsTableSize n → n < 64 → n ≤ 32
small_size n (inl none) less = omega arith
small_size n (inr (e, few, is)) less = elim (cases_lt e 6) [
  | inl lt ↦ rw is (pow_mono {i = e} {j = 5} (omega arith))
  | inr ge ↦ let m = pow_mono {i = 6} {j = e} ge in absurd (omega arith)
]

pub asked_most : (n : ℕ) → IsTableSize n → n < 64 → wanted_of (2 * n) ≤ 128
asked_most n size less =
    let small = small_size n size less in
    let few : length (digits_of 2 (2 * n + (2 * n) / 2)) ≤ 7 = length-digits_of-le 2 7 (2 * n + (2 * n) / 2) (lit≤ tt) (omega arith) in
    rw (wanted_of-less (2 * n) (omega arith)) (pow_mono few)

-- ---- room

below_power : (n : ℕ) → n < 2 ^ length (digits_of 2 n)
below_power n =
    let two : 2 ≤ 2 = omega arith in
    rw (number_digits_of 2 n two) at (number_lt 2 (digits_of 2 n) (all_below_base_digits_of 2 n two))

pub room_for : (count : ℕ) → HasRoom (bins_for count) count
room_for count = elim (cases_lt 0 count) [
  | inl lt ↦
      let t : (count == 0) ≡ false = grind (arith, nat_tests) in
      rw t (inr (
        wanted_some count,
        elim (cases_lt count (2 ^ 29)) [
          | inl less ↦
              let q = 2 ^ length (digits_of 2 (count + count / 2)) in
              let big : count + count / 2 < q = below_power (count + count / 2) in
              inl (rw (wanted_of-less count less) (omega (arith, big)))
          | inr ge ↦ inr (rw (wanted_of-most count ge) (lit≤ tt))
        ],
      ))
  | inr ge ↦ inl (omega arith)
]

table_larger : (n count b : ℕ) → IsTableFrom n count b → n ≤ b
table_larger n count b (inl same) = omega arith
table_larger n count b (inr (few, many, way)) = way_larger n 128 b way

-- with more pairs, and where it was doubled again
pub table_more : (n less more b m : ℕ) → less ≤ more → IsTableFrom n less b → IsTableFrom b more m → IsTableFrom n more m
table_more n less more b m le (inl same) then = subst (λ x. IsTableFrom x more m) same then
table_more n less more b m le (inr (few, many, way)) (inl same) = inr (few, omega arith, subst (λ x. IsOnTheWay n 128 x) (sym same) way)
table_more n less more b m le (inr (few, many, way)) (inr (few', many', way')) = inr (few, many', way_on n 128 b m way way')

-- a new key in a table that has room
pub room_more : (n less more all b m : ℕ) → HasRoom n all → 0 < all → less ≤ more → more ≤ all → IsTableFrom n less b → IsTableAfter (first_bins b FIRST_BINS) more m → IsTableFrom n more m
room_more n less more all b m (inl none) some le most from after = absurd (omega arith)
room_more n less more all b m (inr (pos, enough)) some le most from (mid, grown, way) =
    let large : n ≤ b = table_larger n less b from in
    let t : (b == 0) ≡ false = grind (arith, nat_tests) in
    let here : IsTableFrom b more mid = rw t at grown in
    let at : IsTableFrom n more mid = table_more n less more b mid le from here in
    let larger : n ≤ mid = table_larger n more mid at in
    let fits : (more < threshold_of mid) ⊎ (2 ^ MAX_TABLE ≤ mid) = elim enough [
      | inl lt ↦ inl (omega arith)
      | inr ge ↦ inr (omega arith)
    ] in
    subst (λ x. IsTableFrom n more x) (sym (no_way mid more m way fits)) at

-- how many pairs there are once one was put
pub one_more : (b : Bool) (m n : ℕ) → n ≡ cond b m (m + 1) → (m ≤ n) × (n ≤ m + 1)
one_more true m n e = (omega arith, omega arith)
one_more false m n e = (omega arith, omega arith)

-- one step of a list of insertions: what was put was there, or is new
pub room_put : {X : Type 0} (done : List X) (x : X) (rest list : List X) (start old new n b m : ℕ) → (done ++ x ∷ []) ++ rest ≡ list → old ≤ start + length done → (old ≤ new) × (new ≤ old + 1) → (m ≡ b) ⊎ IsTableAfter (first_bins b FIRST_BINS) new m → HasRoom n (start + length list)
    → IsTableFrom n old b → IsTableFrom n new m
room_put done x rest list start old new n b m split few more reply room from =
    let long : length list ≡ length done + 1 + length rest = ap length (sym split) ∙ simp length-append (omega arith) in
    by_reply reply (omega (arith, more.0)) (omega (arith, more.1, long)) (omega (arith, long))
  where
    by_reply : (m ≡ b) ⊎ IsTableAfter (first_bins b FIRST_BINS) new m → old ≤ new → new ≤ start + length list → 0 < start + length list → IsTableFrom n new m
    by_reply (inl same) le most some = subst (λ x. IsTableFrom n new x) (sym same) (table_more n old new b b le from (inl refl))
    by_reply (inr grown) le most some = room_more n old new (start + length list) b m room some le most from grown

pub count_put : {X : Type 0} (done : List X) (x : X) (start old new : ℕ) → old ≤ start + length done → (old ≤ new) × (new ≤ old + 1) → new ≤ start + length (done ++ x ∷ [])
count_put done x start old new few more = rw length-append (omega (arith, more.1))

pub of_option : {Y P Q : Type 0} (w : Option Y) → (IsSome w → P) → (IsNone w → Q) → P ⊎ Q
of_option None there absent = inr (absent refl)
of_option (Some y) there absent = inl (there refl)

pub of_test : {P Q : Type 0} (b : Bool) → (IsTrue (not b) → P) → (IsTrue b → Q) → P ⊎ Q
of_test true there absent = inr (absent refl)
of_test false there absent = inl (there refl)

pub of_ok : {T E : Type 0} (r : Result T E) (P : Type 0) → is_err r ≡ false → OnOk r P → P
of_ok (Ok x) P fine p = p
of_ok (Err e) P fine p = cc
