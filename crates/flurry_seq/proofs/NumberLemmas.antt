-- Entries that bear the number 0 stay so where a bin changes.
use Rattle.std.proofs.Common.{◌≡◌, ℕ, zero, suc, ◌<◌, Bool, true, false, List, [], ◌∷◌, length, filter, get_or, set, Option, Some, None, Result, Ok, Err, IfOk, OnErr, refl, sym, subst, arith, Ordering}
use Rattle.std.specs.Prelude.{if◌then◌else◌}
use Rattle.std.specs.List.{AllByRecursion}
use Rattle.std.specs.Arc.{arc_value}
use Rattle.std.specs.declared.alloc.AllocError.{AllocError}
use Rattle.std.specs.declared.sync.Arc.{Arc}
use Rattle.flurry_bins.specs.declared.bin.entry.Entry.{Entry}
use Rattle.flurry_bins.specs.Entries.{is_at, is_before, is_past, with_entry, with_value_at, with_value, IsInsertion}
use Rattle.flurry_base.proofs.ListParts.{all_append}
use Rattle.flurry_seq.specs.Numbers.{BearZero}

module _ {X : Type 0} (P : X → Type 0) where
  pub all_filter : (t : X → Bool) (xs : List X) → AllByRecursion P xs → AllByRecursion P (filter t xs)
  all_filter t [] h = tt
  all_filter t (x ∷ xs) h = by_test (t x) refl (all_filter t xs h.1)
    where
      by_test : (b : Bool) → t x ≡ b → AllByRecursion P (filter t xs) → AllByRecursion P (filter t (x ∷ xs))
      by_test true e ih = rw e (h.0, ih)
      by_test false e ih = rw e ih

  pub all_set : (xs : List X) (i : ℕ) (y : X) → P y → AllByRecursion P xs → AllByRecursion P (set xs i y)
  all_set [] i y here h = tt
  all_set (x ∷ xs) zero y here h = (here, h.1)
  all_set (x ∷ xs) (suc i) y here h = (h.0, all_set xs i y here h.1)

  at_or : (xs : List X) (i : ℕ) (y : X) → i < length xs → AllByRecursion P xs → P (get_or xs i y)
  at_or [] i y lt h = absurd (omega arith)
  at_or (x ∷ xs) zero y lt h = h.0
  at_or (x ∷ xs) (suc i) y lt h = at_or xs i y (omega arith) h.1

  pub all_at : (xs : List X) (i : ℕ) (y : X) → i < length xs → y ≡ get_or xs i y → AllByRecursion P xs → P y
  all_at xs i y lt is h = subst P (sym is) (at_or xs i y lt h)

module _ {K V A : Type 0} (cmp : K → K → Ordering) where
  pub zero-with_entry : (x : Entry K V A) (es : List (Entry K V A)) → x.number ≡ 0 → BearZero es → BearZero (with_entry cmp x es)
  zero-with_entry x es here h =
      let P : Entry K V A → Type 0 = λ e. e.number ≡ 0 in
      all_append P (filter (is_before cmp x.hash (arc_value x.key)) es) (x ∷ filter (is_past cmp x.hash (arc_value x.key)) es)
      (all_filter P (is_before cmp x.hash (arc_value x.key)) es h)
      (here, all_filter P (is_past cmp x.hash (arc_value x.key)) es h)

  pub zero-with_value_at : (h : ℕ) (k : K) (v : Arc V A) (es : List (Entry K V A)) → BearZero es → BearZero (with_value_at cmp h k v 0 es)
  zero-with_value_at h k v [] all = tt
  zero-with_value_at h k v (e ∷ es) all = (by_test (is_at cmp h k e), zero-with_value_at h k v es all.1)
    where
      by_test : (b : Bool) → (if b then with_value e v 0 else e).number ≡ 0
      by_test true = refl
      by_test false = all.0

  pub zero-insertion : (h : ℕ) (k : K) (v : Arc V A) (old : Option (Arc V A)) (es new : List (Entry K V A)) → IsInsertion cmp h k v 0 old es new → BearZero es → BearZero new
  zero-insertion h k v None es new put all = let x = put.1 in rw put.3 (zero-with_entry x es put.2.3 all)
  zero-insertion h k v (Some old) es new put all = rw put.1 (zero-with_value_at h k v es all)

  pub zero-answered : (h : ℕ) (k : K) (v : Arc V A) (r : Result (Option (Arc V A) × Bool) AllocError) (es new : List (Entry K V A)) → IfOk r (λ a. IsInsertion cmp h k v 0 a.0 es new) → OnErr r (new ≡ es) → BearZero es → BearZero new
  zero-answered h k v (Ok a) es new ok err all = zero-insertion h k v a.0 es new ok all
  zero-answered h k v (Err e) es new ok err all = rw err all
