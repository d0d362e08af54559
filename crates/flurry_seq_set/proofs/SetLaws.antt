-- A set is the keys of a map.
use Rattle.std.proofs.Common.{◌+◌, ◌≤◌, length, arith, ◌≡◌, ℕ, Bool, true, false, cond, not, ◌&&◌, List, [], ◌∷◌, ◌++◌, Option, Some, None, is_some, option_map, Result, Ok, Err, refl, sym, ap, ◌∙◌, Ordering, Less, Equal, Greater}
use Rattle.std.specs.Prelude.{IsTrue, IsSome, ◌↔◌, ◌==◌, is_none, is_ok, if◌then◌else◌}
use Rattle.std.specs.Borrow.{Bor}
use Rattle.std.specs.Ordering.{is_eq, eq_by_cmp}
use Rattle.std.specs.Cmp.{IsTotalOrder, tied_itself}
use Rattle.std.specs.Cmp.Lexicographic.{pointwise}
use Rattle.std.specs.Option.{option_eq, option_map_or, MatchOption}
use Rattle.std.specs.Result.{IsOkAnd, IsErrAnd}
use Rattle.std.specs.Map.{keys_of}
use Rattle.std.specs.List.{AllByRecursion, list_all}
use Rattle.std.proofs.lemmas.Bool.Decides.{nat_tests}
use Rattle.std.proofs.lemmas.List.Sorted.{IsPermutation-map}
use Rattle.std.proofs.lemmas.Map.Keys.{sorted_head, sorted_tail}
use Rattle.flurry_base.specs.FiniteMap.{IsFiniteMap, pair_at, value_at, with_pair, without, map_of_pairs}
use Rattle.flurry_base.specs.FiniteSet.{IsFiniteSet, element_at, with_element, with_elements, without_element, set_of_elements, IsSubset, AreDisjoint}
use Rattle.flurry_base.specs.Keeps.{Keeps, CalledAtPair}
use Rattle.flurry_base.proofs.FiniteMapLaws.{below_all, alike_all, pair_at-with_pair, IsFiniteMap-with_pair, IsFiniteMap-map_of_pairs}
use Rattle.flurry_seq.specs.Contents.{Contents}
use Rattle.flurry_seq.specs.Equality.{pair_eq}
use Rattle.flurry_seq.specs.Retain.{Retains}
use Rattle.flurry_seq_set.specs.SetContents.{SetContents, keys_in, set_contents}
use Rattle.flurry_seq_set.specs.SetRetain.{CalledAtElement, RetainsElements}
use Rattle.flurry_seq_set.specs.SetCalls.{SetCallRefused}
use Rattle.flurry_seq_set.specs.declared.set_calls.SetCall.{SetCall}
use Rattle.flurry_seq_set.specs.declared.set_calls.SetCall.TheVariants.{Contains, Get, Insert, Remove, Take, Retain, Len, IsEmpty, Elements, IsDisjoint, IsSuperset, Equals, TryClone, Clear, Reserve, Extend}
use Rattle.flurry_seq_set.specs.declared.set_calls.SetCall.TheVariants as call

eq_of : (r : Ordering) → is_eq r ≡ true → r ≡ Equal
eq_of Less e = cc
eq_of Equal e = refl
eq_of Greater e = cc

pub some_mapped : {X Y : Type 0} (f : X → Y) (o : Option X) → is_some (option_map f o) ≡ is_some o
some_mapped f None = refl
some_mapped f (Some p) = refl

module _ {K V : Type 0} (cmp : K → K → Ordering) where
  pub element_at-keys : (m : List (K × V)) (x : K) → element_at cmp (keys_of m) x ≡ option_map (λ p. p.0) (pair_at cmp m x)
  element_at-keys [] x = refl
  element_at-keys (e ∷ m) x = by_test (is_eq (cmp x e.0)) (pair_at cmp m x) (element_at-keys m x)
    where
      by_test : (b : Bool) (p : Option (K × V)) {o : Option K} → o ≡ option_map (λ p. p.0) p → cond b (Some e.0) o ≡ option_map (λ p. p.0) (cond b (Some e) p)
      by_test true p h = refl
      by_test false p h = h

  pub has_element-keys : (m : List (K × V)) (x : K) → is_some (element_at cmp (keys_of m) x) ≡ is_some (pair_at cmp m x)
  has_element-keys m x = ap is_some (element_at-keys m x) ∙ some_mapped (λ p. p.0) (pair_at cmp m x)

  pub has_value-keys : (m : List (K × V)) (x : K) → is_some (value_at cmp m x) ≡ is_some (element_at cmp (keys_of m) x)
  has_value-keys m x = some_mapped (λ p. p.1) (pair_at cmp m x) ∙ sym (has_element-keys m x)

  pub with_element-keys : (m : List (K × V)) (x : K) (v : V) → with_element cmp (keys_of m) x ≡ keys_of (with_pair cmp m x v)
  with_element-keys [] x v = refl
  with_element-keys (e ∷ m) x v = by_order (cmp x e.0) refl (with_element-keys m x v)
    where
      by_order : (r : Ordering) → cmp x e.0 ≡ r → with_element cmp (keys_of m) x ≡ keys_of (with_pair cmp m x v) → with_element cmp (keys_of (e ∷ m)) x ≡ keys_of (with_pair cmp (e ∷ m) x v)
      by_order Less p ih = rw p refl
      by_order Equal p ih = rw p refl
      by_order Greater p ih = rw p (ap (λ l. e.0 ∷ l) ih)

  -- maps whose values are all equal are equal where their keys are
  pub keys_eq : (eq : V → V → Bool) → ((v w : V) → eq v w ≡ true) → (a b : List (K × V)) → pointwise (pair_eq cmp eq) a b ≡ pointwise (eq_by_cmp cmp) (keys_of a) (keys_of b)
  keys_eq eq all [] [] = refl
  keys_eq eq all [] (y ∷ b) = refl
  keys_eq eq all (x ∷ a) [] = refl
  keys_eq eq all (x ∷ a) (y ∷ b) = rw (all x.1 y.1) (by_test (is_eq (cmp x.0 y.0)) (keys_eq eq all a b))
    where
      by_test : (w : Bool) {s t : Bool} → s ≡ t → ((w && true) && s) ≡ (w && t)
      by_test true h = h
      by_test false h = refl

  -- equal at each key: the same keys
  pub same_keys : (eq : V → V → Bool) → ((v w : V) → eq v w ≡ true) → (a b : List (K × V)) (r : Bool) → IsTrue r ↔ ((k : K) → IsTrue (option_eq eq (value_at cmp a k) (value_at cmp b k)))
      → IsTrue r ↔ ((x : K) → is_some (element_at cmp (keys_of a) x) ≡ is_some (element_at cmp (keys_of b) x))
  same_keys eq all a b r h =
      (λ t x. sym (has_value-keys a x) ∙ alike (value_at cmp a x) (value_at cmp b x) (h.0 t x) ∙ has_value-keys b x, λ t. h.1 (λ k. equal (value_at cmp a k) (value_at cmp b k) (has_value-keys a k ∙ t k ∙ sym (has_value-keys b k))))
    where
      alike : (o p : Option V) → option_eq eq o p ≡ true → is_some o ≡ is_some p
      alike None None h = refl
      alike None (Some w) h = h
      alike (Some v) None h = sym h
      alike (Some v) (Some w) h = refl

      equal : (o p : Option V) → is_some o ≡ is_some p → option_eq eq o p ≡ true
      equal None None h = refl
      equal None (Some w) h = h
      equal (Some v) None h = sym h
      equal (Some v) (Some w) h = all v w

module _ {K : Type 0} {cmp : K → K → Ordering} (o : IsTotalOrder cmp) where
  -- nothing is left out of a set above x
  without_above : (s : List K) (x : K) → AllByRecursion (λ y. cmp x y ≡ Less) s → without_element cmp s x ≡ s
  without_above [] x h = refl
  without_above (y ∷ s) x h = rw (h.0) (ap (λ l. y ∷ l) (without_above s x h.1))

  pub without_element-keys : {V : Type 0} (m : List (K × V)) (x : K) → IsFiniteMap cmp m → without_element cmp (keys_of m) x ≡ keys_of (without cmp m x)
  without_element-keys [] x s = refl
  without_element-keys {V} (e ∷ m) x s = by_test (is_eq (cmp x e.0)) refl (without_element-keys m x (sorted_tail cmp e.0 (keys_of m) s))
    where
      by_test : (b : Bool) → is_eq (cmp x e.0) ≡ b → without_element cmp (keys_of m) x ≡ keys_of (without cmp m x) → without_element cmp (keys_of (e ∷ m)) x ≡ keys_of (without cmp (e ∷ m) x)
      by_test true p ih = rw p (without_above (keys_of m) x (alike_all o (keys_of m) x e.0 (eq_of _ p) (sorted_head cmp e.0 (keys_of m) s)))
      by_test false p ih = rw p (ap (λ l. e.0 ∷ l) ih)

  -- an element below all others is not found
  element_below : (s : List K) (x : K) → AllByRecursion (λ y. cmp x y ≡ Less) s → element_at cmp s x ≡ None
  element_below [] x h = refl
  element_below (y ∷ s) x h = rw (h.0) (element_below s x h.1)

  -- a class that is there stays as it is
  pub with_element_present : (s : List K) (x : K) → IsFiniteSet cmp s → IsSome (element_at cmp s x) → with_element cmp s x ≡ s
  with_element_present [] x a h = cc
  with_element_present (y ∷ s) x a h = by_order (cmp x y) refl (with_element_present s x (sorted_tail cmp y s a))
    where
      by_order : (r : Ordering) → cmp x y ≡ r → (IsSome (element_at cmp s x) → with_element cmp s x ≡ s) → with_element cmp (y ∷ s) x ≡ y ∷ s
      by_order Less p ih =
          let none : element_at cmp (y ∷ s) x ≡ None = element_below (y ∷ s) x (p, below_all o x y s p (sorted_head cmp y s a)) in
          let no : false ≡ true = ap is_some (sym none) ∙ h in
          cc
      by_order Equal p ih = rw p refl
      by_order Greater p ih = rw p (ap (λ l. y ∷ l) (ih (rw p at h)))

  -- an element that was absent is found once it is put
  pub put_is_found : {V : Type 0} (m : List (K × V)) (x : K) (v : V) → IsFiniteMap cmp m → is_some (element_at cmp (keys_of m) x) ≡ false → element_at cmp (keys_of (with_pair cmp m x v)) x ≡ Some x
  put_is_found {V} m x v s absent =
      element_at-keys cmp (with_pair cmp m x v) x ∙ ap (option_map (λ (p : K × V). p.0)) (pair_at-with_pair o m x v x s)
      ∙ by_pair (is_eq (cmp x x)) (pair_at cmp m x) (ap is_eq (tied_itself o x)) (sym (has_element-keys cmp m x) ∙ absent)
    where
      by_pair : (b : Bool) (p : Option (K × V)) → b ≡ true → is_some p ≡ false
          → option_map (λ (p : K × V). p.0) (cond b (Some (option_map_or (λ (p : K × V). p.0) p x, v)) p) ≡ Some x
      by_pair true None e h = refl
      by_pair true (Some p) e h = cc
      by_pair false p e h = cc

  -- elements of one class are at the same element
  pub same_class : (s : List K) (x y : K) → cmp x y ≡ Equal → element_at cmp s x ≡ element_at cmp s y
  same_class [] x y e = refl
  same_class (z ∷ s) x y e = rw (o.congr x y z e) (ap (cond (is_eq (cmp y z)) (Some z)) (same_class s x y e))

  -- a test of classes passes at each element exactly if it does at each class of the set
  pub decides_classes : (p : K → Bool) → ((x y : K) → cmp x y ≡ Equal → p x ≡ p y) → (s : List K) (r : Bool) → r ≡ list_all p s → IsTrue r ↔ ((x : K) → IsSome (element_at cmp s x) → p x ≡ true)
  decides_classes p alike s r is = (λ t. each s (sym is ∙ t), λ h. is ∙ all s h)
    where
      first : (a b : Bool) → (a && b) ≡ true → a ≡ true
      first true b h = refl
      first false b h = h

      second : (a b : Bool) → (a && b) ≡ true → b ≡ true
      second true b h = h
      second false b h = cc

      each : (s : List K) → list_all p s ≡ true → (x : K) → IsSome (element_at cmp s x) → p x ≡ true
      each [] t x h = cc
      each (y ∷ s) t x h = by_test (is_eq (cmp x y)) refl (each s (second (p y) _ t) x)
        where
          by_test : (b : Bool) → is_eq (cmp x y) ≡ b → (IsSome (element_at cmp s x) → p x ≡ true) → p x ≡ true
          by_test true e ih = alike x y (eq_of _ e) ∙ first (p y) _ t
          by_test false e ih = ih (rw e at h)

      also : (b : Bool) (y : K) (o : Option K) → is_some o ≡ true → is_some (cond b (Some y) o) ≡ true
      also true y o h = refl
      also false y o h = h

      all : (s : List K) → ((x : K) → IsSome (element_at cmp s x) → p x ≡ true) → list_all p s ≡ true
      all [] h = refl
      all (y ∷ s) h = rw (h y (rw (tied_itself o y) refl)) (all s (λ x t. h x (also (is_eq (cmp x y)) y _ t)))

  pub decides_subset : (s t : List K) (r : Bool) → r ≡ list_all (λ y. is_some (element_at cmp t y)) s → IsTrue r ↔ IsSubset cmp s t
  decides_subset s t r is = decides_classes (λ y. is_some (element_at cmp t y)) (λ x y e. ap is_some (same_class t x y e)) s r is

  pub decides_disjoint : (s t : List K) (r : Bool) → r ≡ list_all (λ y. not (is_some (element_at cmp t y))) s → IsTrue r ↔ AreDisjoint cmp s t
  decides_disjoint s t r is =
      let h = decides_classes (λ y. not (is_some (element_at cmp t y))) (λ x y e. ap (λ w. not (is_some w)) (same_class t x y e)) s r is in
      (λ t x some. turned _ (h.0 t x some), λ f. h.1 (λ x some. ap not (f x some)))
    where
      turned : (b : Bool) → not b ≡ true → b ≡ false
      turned true e = sym e
      turned false e = refl

  -- there is no class in an empty set
  empty_of : (t : List K) → (length t == 0) ≡ true → t ≡ []
  empty_of [] e = refl
  empty_of (y ∷ t) e = let some : (length (y ∷ t) == 0) ≡ false = grind (arith, nat_tests) in cc

  pub subset_of_none : (s t : List K) → (length t == 0) ≡ true → IsTrue (length s == 0) ↔ IsSubset cmp s t
  subset_of_none s t e = rw (empty_of t e) (decides_subset s [] (length s == 0) (none s))
    where
      none : (s : List K) → (length s == 0) ≡ list_all (λ y. is_some (element_at cmp [] y)) s
      none [] = refl
      none (x ∷ s) = let some : (length (x ∷ s) == 0) ≡ false = grind (arith, nat_tests) in rw some refl

-- one element more
-- a set to which an element was put has as many elements, or one more
pub length-with_element : {K : Type 0} (cmp : K → K → Ordering) (s : List K) (x : K) → (length s ≤ length (with_element cmp s x)) × (length (with_element cmp s x) ≤ length s + 1)
length-with_element cmp [] x = (omega arith, omega arith)
length-with_element cmp (y ∷ s) x = by_order (cmp x y) refl (length-with_element cmp s x)
  where
    by_order : (r : Ordering) → cmp x y ≡ r → (length s ≤ length (with_element cmp s x)) × (length (with_element cmp s x) ≤ length s + 1) → (length (y ∷ s) ≤ length (with_element cmp (y ∷ s) x)) × (length (with_element cmp (y ∷ s) x) ≤ length (y ∷ s) + 1)
    by_order Less e ih = rw e (omega arith, omega arith)
    by_order Equal e ih = rw e (omega arith, omega arith)
    by_order Greater e ih = rw e (omega (arith, ih.0), omega (arith, ih.1))

pub with_elements-push : {K : Type 0} (cmp : K → K → Ordering) (s xs : List K) (x : K) → with_elements cmp s (xs ++ x ∷ []) ≡ with_element cmp (with_elements cmp s xs) x
with_elements-push cmp s [] x = refl
with_elements-push cmp s (y ∷ xs) x = with_elements-push cmp (with_element cmp s y) xs x

is_none_of : {X : Type 0} (o : Option X) (b : Bool) → is_some o ≡ b → is_none o ≡ not b
is_none_of None b e = ap not e
is_none_of (Some x) b e = ap not e

-- what `try_insert` of a map ensures, at its keys
pub put_key : {K V S X E : Type 0} {cmp : K → K → Ordering} (o : IsTotalOrder cmp) (m n : Contents K V S) (x : K) (v : V) (P : X → Type 0) (Q : V → E → Type 0) (r : Result X E)
    → MatchOption (value_at cmp m.pairs x) (IsOkAnd r P × (n.pairs ≡ with_pair cmp m.pairs x v)) (λ w. IsErrAnd r (Q w) × (n ≡ m)) → IsFiniteMap cmp m.pairs
    → (is_ok r ≡ is_none (element_at cmp (keys_of m.pairs) x)) × (keys_of n.pairs ≡ with_element cmp (keys_of m.pairs) x) × IsFiniteMap cmp n.pairs
put_key {K} {V} {S} {X} {E} {cmp} o m n x v P Q r h s = by_value (value_at cmp m.pairs x) r refl h
  where
    by_value : (w : Option V) (r : Result X E) → value_at cmp m.pairs x ≡ w → MatchOption w (IsOkAnd r P × (n.pairs ≡ with_pair cmp m.pairs x v)) (λ w. IsErrAnd r (Q w) × (n ≡ m))
        → (is_ok r ≡ is_none (element_at cmp (keys_of m.pairs) x)) × (keys_of n.pairs ≡ with_element cmp (keys_of m.pairs) x) × IsFiniteMap cmp n.pairs
    by_value None (Ok a) e h = (
      sym (is_none_of (element_at cmp (keys_of m.pairs) x) false (sym (has_value-keys cmp m.pairs x) ∙ ap is_some e)),
      ap keys_of h.1 ∙ sym (with_element-keys cmp m.pairs x v),
      rw h.1 (IsFiniteMap-with_pair o m.pairs x v s),
    )
    by_value None (Err a) e h = absurd h.0
    by_value (Some w) (Ok a) e h = absurd h.0
    by_value (Some w) (Err a) e h = (
      sym (is_none_of (element_at cmp (keys_of m.pairs) x) true (sym (has_value-keys cmp m.pairs x) ∙ ap is_some e)),
      ap (λ c. keys_of c.pairs) h.1 ∙ sym (with_element_present o (keys_of m.pairs) x s (sym (has_value-keys cmp m.pairs x) ∙ ap is_some e)),
      rw h.1 s,
    )

-- what stays where an element is not new stays where its class is present
pub stays_at_present : {X : Type 0} (o : Option X) (new : Bool) (m n : ℕ) → new ≡ is_none o → (IsTrue (not new) → n ≡ m) → IsSome o → n ≡ m
stays_at_present None new m n e h some = let no = some in cc
stays_at_present (Some x) new m n e h some = h (ap not e)

-- a call that was refused may leave the set as it was
pub same_set_refused : {T S P A : Type 0} (cmp : T → T → Ordering) (call : SetCall T S P A) (s : SetContents T S) → SetCallRefused cmp call s s
same_set_refused cmp (Extend list) s = ([], list.items, refl, refl, refl)
same_set_refused cmp (Contains x) s = refl
same_set_refused cmp (Get x) s = refl
same_set_refused cmp (Insert x) s = refl
same_set_refused cmp (Remove x) s = refl
same_set_refused cmp (Take x) s = refl
same_set_refused cmp (Retain p) s = refl
same_set_refused cmp Len s = refl
same_set_refused cmp IsEmpty s = refl
same_set_refused cmp Elements s = refl
same_set_refused cmp (IsDisjoint other) s = refl
same_set_refused cmp (call.IsSubset other) s = refl
same_set_refused cmp (IsSuperset other) s = refl
same_set_refused cmp (Equals other) s = refl
same_set_refused cmp TryClone s = refl
same_set_refused cmp Clear s = refl
same_set_refused cmp (Reserve a) s = refl

pub set_of_elements-keys : {K V : Type 0} {cmp : K → K → Ordering} (o : IsTotalOrder cmp) (ps : List (K × V)) → set_of_elements cmp (keys_of ps) ≡ keys_of (map_of_pairs cmp ps)
set_of_elements-keys o [] = refl
set_of_elements-keys {cmp = cmp} o (p ∷ ps) =
    ap (λ s. with_element cmp (without_element cmp s p.0) p.0) (set_of_elements-keys o ps) ∙ ap (λ s. with_element cmp s p.0) (without_element-keys o (map_of_pairs cmp ps) p.0 (IsFiniteMap-map_of_pairs o ps))
    ∙ with_element-keys cmp (without cmp (map_of_pairs cmp ps) p.0) p.0 p.1

module _ {F G K V : Type 0} (step : F → Bor K → Bool → F → Type 0) (call : G → Bor K → Bor V → Bool → G → Type 0) (inner : G → F)
    (steps : (f : G) (k : Bor K) (v : Bor V) (answer : Bool) (next : G) → call f k v answer next → step (inner f) k answer (inner next)) where
  kept_keys : (first : G) (order kept : List (K × V)) (last : G) → Keeps (CalledAtPair call) first order kept last → Keeps (CalledAtElement step) (inner first) (keys_of order) (keys_of kept) (inner last)
  kept_keys first [] kept last h = (ap keys_of h.0, ap inner h.1)
  kept_keys first (x ∷ xs) kept last h = (
    h.0,
    inner h.1,
    keys_of h.2,
    record { element = h.3.key; shows = h.3.shows_key; called = steps first h.3.key h.3.value h.0 h.1 h.3.called },
    kept_keys h.1 xs h.2 last h.4,
    ap keys_of h.5 ∙ by_answer h.0 h.2,
  )
    where
      by_answer : (b : Bool) (rest : List (K × V)) → keys_of (if b then x ∷ rest else rest) ≡ (if b then x.0 ∷ keys_of rest else keys_of rest)
      by_answer true rest = refl
      by_answer false rest = refl

  -- what is kept of a map by a call of a function on each key is kept of its keys
  pub retains_keys : {S : Type 0} {cmp : K → K → Ordering} (o : IsTotalOrder cmp) (first : G) (m n : Contents K V S) → Retains call cmp first m n → RetainsElements step cmp (inner first) (keys_in m) (keys_in n)
  retains_keys {S} {cmp} o first m n h = (
    keys_of h.0,
    keys_of h.1,
    inner h.2,
    IsPermutation-map (λ p. p.0) m.pairs h.0 h.3,
    kept_keys first h.0 h.1 h.2 h.4,
    ap keys_in h.5 ∙ ap (λ xs. set_contents xs m.bins m.hasher) (sym (set_of_elements-keys o h.1)),
  )

  pub IsFiniteMap-retained : {S : Type 0} {cmp : K → K → Ordering} (o : IsTotalOrder cmp) (first : G) (m n : Contents K V S) → Retains call cmp first m n → IsFiniteMap cmp n.pairs
  IsFiniteMap-retained o first m n h = rw h.5 (IsFiniteMap-map_of_pairs o h.1)
