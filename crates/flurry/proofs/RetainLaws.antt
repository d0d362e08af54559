-- What `retain` leaves of a map where the answer of its function hangs on the key and the value alone.
use Rattle.std.proofs.Common.{◌≡◌, ◌∙◌, sym, ap, refl, subst, Bool, true, false, List, [], ◌∷◌, Option, Some, None, is_some, Ordering, Less}
use Rattle.std.specs.Borrow.{Bor}
use Rattle.std.specs.Cmp.{IsTotalOrder}
use Rattle.std.specs.List.{filter, AllByRecursion}
use Rattle.std.specs.List.Sorted.{IsPermutation, IsStrictlySortedBy}
use Rattle.std.specs.Map.{keys_of}
use Rattle.std.specs.Ordering.{is_eq}
use Rattle.std.proofs.lemmas.List.Sorted.{IsPermutation-sym, All-permutation}
use Rattle.std.proofs.lemmas.List.Elements.{All-from_recursion, recursion_from_All}
use Rattle.flurry_base.specs.FiniteMap.{IsFiniteMap, pair_at, map_of_pairs}
use Rattle.flurry_base.specs.Keeps.{Keeps, CalledAtPair}
use Rattle.flurry_base.proofs.FiniteMapLaws.{same_map, both_alike, IsFiniteMap-filter, IsFiniteMap-map_of_pairs, pair_at-map_of_pairs}
use Rattle.flurry_seq.specs.Contents.{Contents}
use Rattle.flurry_seq.specs.Retain.{Retains}

shuffled : {X : Type 0} (P : X → Type 0) (xs ys : List X) → IsPermutation xs ys → AllByRecursion P xs → AllByRecursion P ys
shuffled P xs ys s h = recursion_from_All P ys (All-permutation P xs ys s (All-from_recursion P xs h))

each : {X : Type 0} (P Q : X → Type 0) → ((x : X) → P x → Q x) → (xs : List X) → AllByRecursion P xs → AllByRecursion Q xs
each P Q f [] h = tt
each P Q f (x ∷ xs) h = (f x h.0, each P Q f xs h.1)

each_left : {X : Type 0} (P : X → Type 0) (test : X → Bool) (xs : List X) → AllByRecursion P xs → AllByRecursion (λ x. P x × (test x ≡ true)) (filter test xs)
each_left P test [] h = tt
each_left P test (x ∷ xs) h = by_test (test x) refl (each_left P test xs h.1)
  where
    by_test : (b : Bool) → test x ≡ b → AllByRecursion (λ x. P x × (test x ≡ true)) (filter test xs) → AllByRecursion (λ x. P x × (test x ≡ true)) (filter test (x ∷ xs))
    by_test true t ih = rw t ((h.0, t), ih)
    by_test false t ih = rw t ih

module _ {K V : Type 0} (cmp : K → K → Ordering) where
  -- what holds of each pair holds of one that is found
  found_holds : (P : K × V → Type 0) (ps : List (K × V)) (q : K) (p : K × V) → AllByRecursion P ps → pair_at cmp ps q ≡ Some p → P p × (is_eq (cmp q p.0) ≡ true)
  found_holds P [] q p h e = cc
  found_holds P (x ∷ ps) q p h e = by_test (is_eq (cmp q x.0)) refl (found_holds P ps q p h.1)
    where
      by_test : (b : Bool) → is_eq (cmp q x.0) ≡ b → (pair_at cmp ps q ≡ Some p → P p × (is_eq (cmp q p.0) ≡ true)) → P p × (is_eq (cmp q p.0) ≡ true)
      by_test true t ih = let y = rw t at e in let same : x ≡ p = cc in (subst P same h.0, ap (λ (z : K × V). is_eq (cmp q z.0)) (sym same) ∙ t)
      by_test false t ih = let y = rw t at e in ih y

  -- where a pair passes the test, one of its class is found among those that do
  abbrev IsShown : (K × V → Bool) → List (K × V) → K × V → Type 0
  IsShown test ps x = test x ≡ true → (q : K) → is_eq (cmp q x.0) ≡ true → is_some (pair_at cmp (filter test ps) q) ≡ true

  shown_each : (test : K × V → Bool) (ps : List (K × V)) → AllByRecursion (IsShown test ps) ps
  shown_each test [] = tt
  shown_each test (x ∷ ps) = (here, each (IsShown test ps) (IsShown test (x ∷ ps)) behind ps (shown_each test ps))
    where
      here : IsShown test (x ∷ ps) x
      here t q e = rw (t, e) refl

      behind : (y : K × V) → IsShown test ps y → IsShown test (x ∷ ps) y
      behind y h t q e = by_test (test x) refl (is_eq (cmp q x.0)) refl
        where
          by_test : (b : Bool) → test x ≡ b → (c : Bool) → is_eq (cmp q x.0) ≡ c → is_some (pair_at cmp (filter test (x ∷ ps)) q) ≡ true
          by_test true s true r = rw (s, r) refl
          by_test true s false r = rw (s, r) (h t q e)
          by_test false s c r = rw s (h t q e)

module _ {K V : Type 0} {cmp : K → K → Ordering} (o : IsTotalOrder cmp) where
  -- a pair is what is found at its class
  abbrev IsFoundIn : List (K × V) → K × V → Type 0
  IsFoundIn m x = (q : K) → is_eq (cmp q x.0) ≡ true → pair_at cmp m q ≡ Some x

  found_each : (m : List (K × V)) → IsFiniteMap cmp m → AllByRecursion (IsFoundIn m) m
  unfolding IsStrictlySortedBy
  found_each [] s = tt
  found_each (x ∷ m) s = ((λ q e. rw e refl), behind m s.0 (found_each m s.1))
    where
      past_first : (y : K × V) → cmp x.0 y.0 ≡ Less → IsFoundIn m y → IsFoundIn (x ∷ m) y
      past_first y less h q e = by_test (is_eq (cmp q x.0)) refl
        where
          by_test : (b : Bool) → is_eq (cmp q x.0) ≡ b → pair_at cmp (x ∷ m) q ≡ Some y
          by_test true t = let z = sym less ∙ both_alike o q x.0 y.0 t e in cc
          by_test false t = rw t (h q e)

      behind : (rest : List (K × V)) → AllByRecursion (λ y. cmp x.0 y ≡ Less) (keys_of rest) → AllByRecursion (IsFoundIn m) rest → AllByRecursion (IsFoundIn (x ∷ m)) rest
      behind [] below h = tt
      behind (y ∷ rest) below h = (past_first y below.0 h.0, behind rest below.1 h.1)

  same_found : (test : K × V → Bool) (m order : List (K × V)) (q : K) → IsFiniteMap cmp m → IsPermutation m order → pair_at cmp (filter test order) q ≡ pair_at cmp (filter test m) q
  same_found test m order q s p = by_found (pair_at cmp (filter test order) q) refl (pair_at cmp (filter test m) q) refl
    where
      found : AllByRecursion (λ x. IsFoundIn m x × (test x ≡ true)) (filter test order)
      found = each_left (IsFoundIn m) test order (shuffled (IsFoundIn m) m order p (found_each m s))

      kept : AllByRecursion (λ x. IsFoundIn m x × (test x ≡ true)) (filter test m)
      kept = each_left (IsFoundIn m) test m (found_each m s)

      among_order : AllByRecursion (IsShown cmp test order) m
      among_order = shuffled (IsShown cmp test order) order m (IsPermutation-sym m order p) (shown_each cmp test order)

      by_found : (a : Option (K × V)) → pair_at cmp (filter test order) q ≡ a → (b : Option (K × V)) → pair_at cmp (filter test m) q ≡ b → pair_at cmp (filter test order) q ≡ pair_at cmp (filter test m) q
      by_found None e None f = e ∙ sym f
      by_found (Some a) e (Some b) f =
          let x = found_holds cmp (λ x. IsFoundIn m x × (test x ≡ true)) (filter test order) q a found e in
          let y = found_holds cmp (λ x. IsFoundIn m x × (test x ≡ true)) (filter test m) q b kept f in
          e ∙ (sym (x.0.0 q x.1) ∙ y.0.0 q y.1) ∙ sym f
      by_found (Some a) e None f =
          let x = found_holds cmp (λ x. IsFoundIn m x × (test x ≡ true)) (filter test order) q a found e in
          let y = (found_holds cmp (IsShown cmp test m) m q a (shown_each cmp test m) (x.0.0 q x.1)).0 x.0.1 q x.1 in
          let z = rw f at y in cc
      by_found None e (Some b) f =
          let x = found_holds cmp (λ x. IsFoundIn m x × (test x ≡ true)) (filter test m) q b kept f in
          let y = (found_holds cmp (IsShown cmp test order) m q b among_order (x.0.0 q x.1)).0 x.0.1 q x.1 in
          let z = rw e at y in cc

  -- the pairs that pass a test, in any order, are those of the finite map that pass it
  pub map_of_pairs-filter : (test : K × V → Bool) (m order : List (K × V)) → IsFiniteMap cmp m → IsPermutation m order → map_of_pairs cmp (filter test order) ≡ filter test m
  map_of_pairs-filter test m order s p =
      same_map o (map_of_pairs cmp (filter test order)) (filter test m) (IsFiniteMap-map_of_pairs o (filter test order)) (IsFiniteMap-filter o test m s)
      (λ q. pair_at-map_of_pairs o (filter test order) q ∙ same_found test m order q s p)

kept_by_test : {F X : Type 0} (call : F → X → Bool → F → Type 0) (state : F → Type 0) (test : X → Bool) → ((f : F) (x : X) (answer : Bool) (next : F) → state f → call f x answer next → (answer ≡ test x) × state next)
    → (first : F) (xs kept : List X) (last : F) → state first → Keeps call first xs kept last → kept ≡ filter test xs
kept_by_test call state test by first [] kept last s h = h.0
kept_by_test call state test by first (x ∷ xs) kept last s (answer, next, rest, called, keeps, is) =
    let told = by first x answer next s called in
    rw (is, told.0, kept_by_test call state test by next xs rest last told.1 keeps) refl

-- a map after `retain` has its pairs that pass a test, where the function answers by that test in each state that its calls lead to
pub retained_by_test : {F K V S : Type 0} {step : F → Bor K → Bor V → Bool → F → Type 0} {cmp : K → K → Ordering} {first : F} {old new : Contents K V S} → IsTotalOrder cmp → (state : F → Type 0) (test : K × V → Bool)
    → state first → ((f : F) (key : Bor K) (value : Bor V) (answer : Bool) (next : F) → state f → step f key value answer next → (answer ≡ test (key.now, value.now)) × state next)
    → IsFiniteMap cmp old.pairs → Retains step cmp first old new → new.pairs ≡ filter test old.pairs
retained_by_test {K = K} {V = V} {step = step} {cmp = cmp} {first = first} {old = old} {new = new} o state test begins by s (order, kept, last, permuted, keeps, is) =
    rw (is, kept_by_test (CalledAtPair step) state test by_pair first order kept last begins keeps) (map_of_pairs-filter o test old.pairs order s permuted)
  where
    by_pair : (f : _) (pair : K × V) (answer : Bool) (next : _) → state f → CalledAtPair step f pair answer next → (answer ≡ test pair) × state next
    by_pair f pair answer next at_f called =
        let told = by f called.key called.value answer next at_f called.called in
        (told.0 ∙ ap (λ k. test (k, called.value.now)) called.shows_key ∙ ap (λ v. test (pair.0, v)) called.shows_value, told.1)
