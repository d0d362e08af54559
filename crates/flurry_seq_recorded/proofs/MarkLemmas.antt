-- Marks of numbers: how a mark is added, and what it means where one is not.
use Rattle.std.proofs.Common.{◌≡◌, ◌≢◌, ◌≤◌, ◌<◌, ◌+◌, ◌⊎◌, ℕ, zero, suc, Bool, true, false, cond, List, [], ◌∷◌, ◌++◌, get_or, length, ltb, replicate, refl, sym, ap, subst, ◌∙◌, inl, inr, arith}
use Rattle.std.specs.Prelude.{All, ◌==◌}
use Rattle.std.proofs.Math.ListN.{set}
use Rattle.std.proofs.lemmas.Bool.Decides.{Decides-eqb, Decides-ltb, not_from_Decides}
use Rattle.std.proofs.lemmas.List.{get_or-set_same, get_or-set_other}
use Rattle.std.proofs.lemmas.List.Sums.{sum_by-append, sum_by-cons}
use Rattle.flurry_base.specs.Occurrences.{occurrences}
use Rattle.flurry_seq_recorded.specs.Closing.{AreDistinct}
use Rattle.flurry_seq_recorded.specs.Marks.{AreMarked, AreOnce}

-- a mark as a number, and a bound on it
abbrev bit : Bool → ℕ
bit b = cond b 1 0

bit_small : (b : Bool) → bit b ≤ 1
bit_small true = omega arith
bit_small false = omega arith

occurrences-append : (x : ℕ) (xs ys : List ℕ) → occurrences x (xs ++ ys) ≡ occurrences x xs + occurrences x ys
occurrences-append x xs ys = sum_by-append (λ y. cond (y == x) 1 0) xs ys

times_cons : (x y : ℕ) (ys : List ℕ) → occurrences x (y ∷ ys) ≡ bit (y == x) + occurrences x ys
times_cons x y ys = sum_by-cons (λ z. cond (z == x) 1 0) y ys

times_same : (x : ℕ) (ys : List ℕ) → occurrences x (x ∷ ys) ≡ occurrences x ys + 1
times_same x ys = omega (arith, times_cons x x ys, ap bit ((Decides-eqb x x).1 refl))

test_apart : (x y : ℕ) (b : Bool) → (y == x) ≡ b → y ≢ x → bit (y == x) ≡ 0
test_apart x y true is apart = absurd (apart ((Decides-eqb y x).0 is))
test_apart x y false is apart = ap bit is

times_other : (x y : ℕ) (ys : List ℕ) → y ≢ x → occurrences x (y ∷ ys) ≡ occurrences x ys
times_other x y ys apart = omega (arith, times_cons x y ys, test_apart x y (y == x) refl apart)

past : (x n : ℕ) → ltb x n ≡ false → n ≤ x
past x n is = let none = not_from_Decides (ltb x n) (Decides-ltb x n) is in omega (arith, none)

test_past : (x n : ℕ) (b : Bool) → ltb x n ≡ b → n ≤ x → bit (ltb x n) ≡ 0
test_past x n true is at = absurd (omega (arith, (Decides-ltb x n).0 is))
test_past x n false is at = ap bit is

no_mark : (n x : ℕ) → get_or (replicate n false) x false ≡ false
no_mark zero x = refl
no_mark (suc n) zero = refl
no_mark (suc n) (suc x) = no_mark n x

past_marks : (marks : List Bool) (x : ℕ) → length marks ≤ x → get_or marks x false ≡ false
past_marks [] x at = refl
past_marks (m ∷ marks) zero at = absurd (omega arith)
past_marks (m ∷ marks) (suc x) at = past_marks marks x (omega arith)

pub none_marked : (n : ℕ) → AreMarked (replicate n false) []
none_marked n = record { each = λ x. sym (ap bit (no_mark n x)) }

pub marked_more : (marks : List Bool) (xs : List ℕ) (p : ℕ) → p < length marks → get_or marks p false ≡ false → AreMarked marks xs → AreMarked (set marks p true) (xs ++ p ∷ [])
marked_more marks xs p within free before = record { each = λ x. by_case x (x == p) refl }
  where
    by_case : (x : ℕ) (b : Bool) → (x == p) ≡ b → occurrences x (xs ++ p ∷ []) ≡ cond (get_or (set marks p true) x false) 1 0
    by_case x true is =
        let at : occurrences p (xs ++ p ∷ []) ≡ bit (get_or (set marks p true) p false) =
        omega (arith, occurrences-append p xs (p ∷ []), times_same p [], before.each p, ap bit free, ap bit (get_or-set_same marks p true false within)) in
        subst (λ y. occurrences y (xs ++ p ∷ []) ≡ bit (get_or (set marks p true) y false)) (sym ((Decides-eqb x p).0 is)) at
    by_case x false is =
        let apart : x ≢ p = not_from_Decides (x == p) (Decides-eqb x p) is in
        omega (arith, occurrences-append x xs (p ∷ []), times_other x p [] (λ e. apart (sym e)), before.each x, ap bit (get_or-set_other marks p x true false apart))

-- a number that is past all marks, or has one, is not one of numbers that come once and are below their count
pub not_once : (marks : List Bool) (xs ys : List ℕ) (p : ℕ) → (length marks ≤ p) ⊎ (get_or marks p false ≡ true) → AreMarked marks xs → ¬ AreOnce (length marks) ((xs ++ p ∷ []) ++ ys)
not_once marks xs ys p (inl at) before once =
    omega (arith, once p, test_past p (length marks) (ltb p (length marks)) refl at, occurrences-append p (xs ++ p ∷ []) ys, occurrences-append p xs (p ∷ []), times_same p [])
not_once marks xs ys p (inr marked) before once =
    omega (arith, once p, bit_small (ltb p (length marks)), occurrences-append p (xs ++ p ∷ []) ys, occurrences-append p xs (p ∷ []), times_same p [], before.each p, ap bit marked)

-- numbers that have their marks come once, and are below the count of the marks
pub once_from_marks : (marks : List Bool) (xs : List ℕ) → AreMarked marks xs → AreOnce (length marks) xs
once_from_marks marks xs marked x = by_case (ltb x (length marks)) refl
  where
    by_case : (b : Bool) → ltb x (length marks) ≡ b → occurrences x xs ≤ cond (ltb x (length marks)) 1 0
    by_case true is = omega (arith, marked.each x, bit_small (get_or marks x false), ap bit is)
    by_case false is = omega (arith, marked.each x, ap bit (past_marks marks x (past x (length marks) is)))

pub distinct_from_once : (n : ℕ) (xs : List ℕ) → AreOnce n xs → AreDistinct xs
distinct_from_once n xs once x = omega (arith, once x, bit_small (ltb x n))

-- a number that is none of the list
times_none : (n x : ℕ) (xs : List ℕ) → n ≤ x → All (λ y. y < n) xs → occurrences x xs ≡ 0
times_none n x [] at below = refl
times_none n x (y ∷ ys) at below =
    let first : y < n = below 0 y (omega arith) in
    times_other x y ys (λ e. omega arith) ∙ times_none n x ys at (λ k d h. below (suc k) d (omega arith))

pub once_from_distinct : (n : ℕ) (xs : List ℕ) → AreDistinct xs → All (λ y. y < n) xs → AreOnce n xs
once_from_distinct n xs distinct below x = by_case (ltb x n) refl
  where
    by_case : (b : Bool) → ltb x n ≡ b → occurrences x xs ≤ cond (ltb x n) 1 0
    by_case true is = omega (arith, distinct x, ap bit is)
    by_case false is = omega (arith, times_none n x xs (past x n is) below)

some_times : (xs : List ℕ) (k d : ℕ) → k < length xs → 0 < occurrences (get_or xs k d) xs
some_times [] k d within = absurd (omega arith)
some_times (y ∷ ys) zero d within = omega (arith, times_same y ys)
some_times (y ∷ ys) (suc k) d within = omega (arith, some_times ys k d (omega arith), times_cons (get_or ys k d) y ys)

pub below_from_once : (n : ℕ) (xs : List ℕ) → AreOnce n xs → All (λ y. y < n) xs
below_from_once n xs once k d within = by_case (ltb (get_or xs k d) n) refl
  where
    by_case : (b : Bool) → ltb (get_or xs k d) n ≡ b → get_or xs k d < n
    by_case true is = (Decides-ltb (get_or xs k d) n).0 is
    by_case false is = absurd (omega (arith, once (get_or xs k d), ap bit is, some_times xs k d within))
