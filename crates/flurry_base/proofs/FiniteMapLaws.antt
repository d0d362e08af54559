-- Laws of finite maps.
use Rattle.std.proofs.Common.{◌≡◌, ℕ, ◌+◌, ◌-◌, ◌<◌, Bool, true, false, cond, suc, List, [], ◌∷◌, ◌++◌, length, Option, Some, None, is_some, refl, sym, ap, ◌∙◌, arith, Ordering, Less, Equal, Greater}
use Rattle.std.specs.Ordering.{is_eq, ordering_reverse}
use Rattle.std.specs.Cmp.{IsTotalOrder, alike_right, tied_itself}
use Rattle.std.specs.Option.{option_map_or}
use Rattle.std.specs.List.{AllByRecursion, filter}
use Rattle.std.specs.List.Sorted.{IsStrictlySortedBy}
use Rattle.std.specs.Map.{keys_of}
use Rattle.std.proofs.lemmas.Map.Keys.{sorted_head, sorted_tail}
use Rattle.flurry_base.specs.FiniteMap.{IsFiniteMap, pair_at, with_pair, with_all, without, stored_key, map_of_pairs}

same_test : {X : Type 0} (b c : Bool) (x y z : X) → b ≡ c → cond c x z ≡ cond b x (cond c y z)
same_test true true x y z e = refl
same_test true false x y z e = cc
same_test false true x y z e = cc
same_test false false x y z e = refl

-- two tests that do not both pass
apart_tests : {X : Type 0} (b c : Bool) (x y z : X) → (b ≡ true → c ≡ true → ⊥) → cond c y (cond b x z) ≡ cond b x (cond c y z)
apart_tests true true x y z e = absurd (e refl refl)
apart_tests true false x y z e = refl
apart_tests false true x y z e = refl
apart_tests false false x y z e = refl

eq_of : (r : Ordering) → is_eq r ≡ true → r ≡ Equal
eq_of Less e = cc
eq_of Equal e = refl
eq_of Greater e = cc

none_either : {X : Type 0} (b : Bool) → ◌≡◌ {A = Option X} None (cond b None None)
none_either true = refl
none_either false = refl

twice : {X : Type 0} (b : Bool) (x y z : X) → cond b x (cond b y z) ≡ cond b x z
twice true x y z = refl
twice false x y z = refl

pushed : (b : Bool) (n m : ℕ) → n ≡ cond b m (m + 1) → suc n ≡ cond b (suc m) (suc m + 1)
pushed true n m h = omega arith
pushed false n m h = omega arith

same_option : {X : Type 0} {x y : X} → Some x ≡ Some y → x ≡ y
same_option e = cc

module _ {K : Type 0} {cmp : K → K → Ordering} (o : IsTotalOrder cmp) where
  pub below_all : (k x : K) (ks : List K) → cmp k x ≡ Less → AllByRecursion (λ y. cmp x y ≡ Less) ks → AllByRecursion (λ y. cmp k y ≡ Less) ks
  below_all k x [] p h = tt
  below_all k x (y ∷ ks) p h = (o.trans k x y p h.0, below_all k x ks p h.1)

  pub alike_all : (ks : List K) (q x : K) → cmp q x ≡ Equal → AllByRecursion (λ y. cmp x y ≡ Less) ks → AllByRecursion (λ y. cmp q y ≡ Less) ks
  alike_all [] q x p h = tt
  alike_all (y ∷ ks) q x p h = (o.congr q x y p ∙ h.0, alike_all ks q x p h.1)

  -- q is alike k
  pub alike_cond : (q k x : K) → cmp k x ≡ Equal → is_eq (cmp q k) ≡ is_eq (cmp q x)
  alike_cond q k x e = ap is_eq (alike_right o k x q e)

  -- keys that q is alike are alike
  pub both_alike : (q k x : K) → is_eq (cmp q k) ≡ true → is_eq (cmp q x) ≡ true → cmp k x ≡ Equal
  both_alike q k x e f = sym (o.congr q k x (eq_of _ e)) ∙ eq_of _ f

  pub turned : (x y : K) → cmp x y ≡ Greater → cmp y x ≡ Less
  turned x y p = o.antisymm y x ∙ ap ordering_reverse p

pub IsFiniteMap-nil : {K : Type 0} (V : Type 0) (cmp : K → K → Ordering) → IsFiniteMap {V = V} cmp []
unfolding IsStrictlySortedBy
IsFiniteMap-nil V cmp = tt

module _ {K V : Type 0} {cmp : K → K → Ordering} (o : IsTotalOrder cmp) where
  -- a key below all keys is not found
  pub pair_at_below : (m : List (K × V)) (k : K) → AllByRecursion (λ x. cmp k x ≡ Less) (keys_of m) → pair_at cmp m k ≡ None
  pair_at_below [] k h = refl
  pair_at_below (e ∷ m) k h = rw (h.0) (pair_at_below m k h.1)

  pub pair_at-with_pair : (m : List (K × V)) (k : K) (v : V) (q : K) → IsFiniteMap cmp m
      → pair_at cmp (with_pair cmp m k v) q ≡ cond (is_eq (cmp q k)) (Some (stored_key cmp m k, v)) (pair_at cmp m q)
  pair_at-with_pair [] k v q s = refl
  pair_at-with_pair (e ∷ m) k v q s = by_order (cmp k e.0) refl (pair_at-with_pair m k v q (sorted_tail cmp e.0 (keys_of m) s))
    where
      by_order : (r : Ordering) → cmp k e.0 ≡ r
          → pair_at cmp (with_pair cmp m k v) q ≡ cond (is_eq (cmp q k)) (Some (stored_key cmp m k, v)) (pair_at cmp m q)
          → pair_at cmp (with_pair cmp (e ∷ m) k v) q ≡ cond (is_eq (cmp q k)) (Some (stored_key cmp (e ∷ m) k, v)) (pair_at cmp (e ∷ m) q)
      by_order Less p ih = rw (p, pair_at_below m k (below_all o k e.0 (keys_of m) p (sorted_head cmp e.0 (keys_of m) s))) refl
      by_order Equal p ih = rw p (same_test _ _ _ _ _ (alike_cond o q k e.0 p))
      by_order Greater p ih = rw (p, ih) (apart_tests _ _ _ _ _ (λ a b. let x = sym p ∙ both_alike o q k e.0 a b in cc))

  pub pair_at-without : (m : List (K × V)) (k q : K) → IsFiniteMap cmp m → pair_at cmp (without cmp m k) q ≡ cond (is_eq (cmp q k)) None (pair_at cmp m q)
  pair_at-without [] k q s = none_either {X = K × V} (is_eq (cmp q k))
  pair_at-without (e ∷ m) k q s = by_order (cmp k e.0) refl (pair_at-without m k q (sorted_tail cmp e.0 (keys_of m) s))
    where
      left_out : (b c : Bool) (x y : Option (K × V)) → b ≡ c → (b ≡ true → x ≡ None) → x ≡ cond b None (cond c y x)
      left_out true true x y h f = f refl
      left_out true false x y h f = cc
      left_out false true x y h f = cc
      left_out false false x y h f = refl

      by_order : (r : Ordering) → cmp k e.0 ≡ r
          → pair_at cmp (without cmp m k) q ≡ cond (is_eq (cmp q k)) None (pair_at cmp m q)
          → pair_at cmp (without cmp (e ∷ m) k) q ≡ cond (is_eq (cmp q k)) None (pair_at cmp (e ∷ m) q)
      by_order Less p ih = rw (p, ih) (apart_tests _ _ _ _ _ (λ a b. let x = sym p ∙ both_alike o q k e.0 a b in cc))
      by_order Equal p ih = rw p (left_out _ _ _ _ (alike_cond o q k e.0 p)
          (λ a. pair_at_below m q (alike_all o (keys_of m) q e.0 (o.congr q k e.0 (eq_of _ a) ∙ p) (sorted_head cmp e.0 (keys_of m) s))))
      by_order Greater p ih = rw (p, ih) (apart_tests _ _ _ _ _ (λ a b. let x = sym p ∙ both_alike o q k e.0 a b in cc))

  -- what holds of each key, and of the new one, holds of each key after it is put
  pub all_with_pair : (P : K → Type 0) (m : List (K × V)) (k : K) (v : V) → P k → AllByRecursion P (keys_of m) → AllByRecursion P (keys_of (with_pair cmp m k v))
  all_with_pair P [] k v p h = (p, tt)
  all_with_pair P (e ∷ m) k v p h = by_order (cmp k e.0) refl (all_with_pair P m k v p h.1)
    where
      by_order : (r : Ordering) → cmp k e.0 ≡ r → AllByRecursion P (keys_of (with_pair cmp m k v)) → AllByRecursion P (keys_of (with_pair cmp (e ∷ m) k v))
      by_order Less a ih = rw a (p, h)
      by_order Equal a ih = rw a h
      by_order Greater a ih = rw a (h.0, ih)

  pub IsFiniteMap-with_pair : (m : List (K × V)) (k : K) (v : V) → IsFiniteMap cmp m → IsFiniteMap cmp (with_pair cmp m k v)
  unfolding IsStrictlySortedBy
  IsFiniteMap-with_pair [] k v s = (tt, tt)
  IsFiniteMap-with_pair (e ∷ m) k v s = by_order (cmp k e.0) refl (IsFiniteMap-with_pair m k v s.1)
    where
      by_order : (r : Ordering) → cmp k e.0 ≡ r → IsFiniteMap cmp (with_pair cmp m k v) → IsFiniteMap cmp (with_pair cmp (e ∷ m) k v)
      by_order Less a ih = rw a ((a, below_all o k e.0 (keys_of m) a s.0), s)
      by_order Equal a ih = rw a s
      by_order Greater a ih = rw a (all_with_pair (λ y. cmp e.0 y ≡ Less) m k v (turned o k e.0 a) s.0, ih)

  -- and of each key that is left
  pub all_without : (P : K → Type 0) (m : List (K × V)) (k : K) → AllByRecursion P (keys_of m) → AllByRecursion P (keys_of (without cmp m k))
  all_without P [] k h = tt
  all_without P (e ∷ m) k h = by_test (is_eq (cmp k e.0)) refl (all_without P m k h.1)
    where
      by_test : (b : Bool) → is_eq (cmp k e.0) ≡ b → AllByRecursion P (keys_of (without cmp m k)) → AllByRecursion P (keys_of (without cmp (e ∷ m) k))
      by_test true a ih = rw a h.1
      by_test false a ih = rw a (h.0, ih)

  pub IsFiniteMap-without : (m : List (K × V)) (k : K) → IsFiniteMap cmp m → IsFiniteMap cmp (without cmp m k)
  unfolding IsStrictlySortedBy
  IsFiniteMap-without [] k s = tt
  IsFiniteMap-without (e ∷ m) k s = by_test (is_eq (cmp k e.0)) refl (IsFiniteMap-without m k s.1)
    where
      by_test : (b : Bool) → is_eq (cmp k e.0) ≡ b → IsFiniteMap cmp (without cmp m k) → IsFiniteMap cmp (without cmp (e ∷ m) k)
      by_test true a ih = rw a s.1
      by_test false a ih = rw a (all_without (λ y. cmp e.0 y ≡ Less) m k s.0, ih)

  pair_at_head : (x : K × V) (m : List (K × V)) (q : K) → cmp q x.0 ≡ Equal → pair_at cmp (x ∷ m) q ≡ Some x
  pair_at_head x m q p = rw p refl

  -- a map does not begin with what another, all above it, has
  no_less : (x y : K × V) (a b : List (K × V)) → IsFiniteMap cmp (y ∷ b) → cmp x.0 y.0 ≡ Less → pair_at cmp (x ∷ a) x.0 ≡ pair_at cmp (y ∷ b) x.0 → ⊥
  no_less x y a b t p h =
      let none : pair_at cmp (y ∷ b) x.0 ≡ None = pair_at_below (y ∷ b) x.0 (p, below_all o x.0 y.0 (keys_of b) p (sorted_head cmp y.0 (keys_of b) t)) in
      let some : pair_at cmp (x ∷ a) x.0 ≡ Some x = pair_at_head x a x.0 (tied_itself o x.0) in
      cc

  tail_at : (x : K × V) (m : List (K × V)) (q : K) → IsFiniteMap cmp (x ∷ m) → pair_at cmp m q ≡ cond (is_eq (cmp q x.0)) None (pair_at cmp (x ∷ m) q)
  tail_at x m q s = by_test (is_eq (cmp q x.0)) refl
    where
      by_test : (b : Bool) → is_eq (cmp q x.0) ≡ b → pair_at cmp m q ≡ cond b None (cond b (Some x) (pair_at cmp m q))
      by_test true e = pair_at_below m q (alike_all o (keys_of m) q x.0 (eq_of _ e) (sorted_head cmp x.0 (keys_of m) s))
      by_test false e = refl

  -- two finite maps with the same pair at each class are one
  pub same_map : (a b : List (K × V)) → IsFiniteMap cmp a → IsFiniteMap cmp b → ((q : K) → pair_at cmp a q ≡ pair_at cmp b q) → a ≡ b
  same_map [] [] s t h = refl
  same_map [] (y ∷ b) s t h = let x = pair_at_head y b y.0 (tied_itself o y.0) in let z = h y.0 in cc
  same_map (x ∷ a) [] s t h = let y = pair_at_head x a x.0 (tied_itself o x.0) in let z = h x.0 in cc
  same_map (x ∷ a) (y ∷ b) s t h = by_order (cmp x.0 y.0) refl (same_map a b (sorted_tail cmp x.0 (keys_of a) s) (sorted_tail cmp y.0 (keys_of b) t))
    where
      by_order : (r : Ordering) → cmp x.0 y.0 ≡ r → (((q : K) → pair_at cmp a q ≡ pair_at cmp b q) → a ≡ b) → x ∷ a ≡ y ∷ b
      by_order Less p ih = absurd (no_less x y a b t p (h x.0))
      by_order Greater p ih = absurd (no_less y x b a s (turned o x.0 y.0 p) (sym (h y.0)))
      by_order Equal p ih =
          let one : x ≡ y = same_option (sym (pair_at_head x a x.0 (tied_itself o x.0)) ∙ h x.0 ∙ pair_at_head y b x.0 p) in
          let tails : a ≡ b = ih (λ q. tail_at x a q s ∙ ap (cond (is_eq (cmp q x.0)) None) (h q) ∙ ap (λ (w : K × V). cond (is_eq (cmp q w.0)) None (pair_at cmp (y ∷ b) q)) one ∙ sym (tail_at y b q t)) in
          cc

  -- ---- how many pairs
  pub length-with_pair : (m : List (K × V)) (k : K) (v : V) → IsFiniteMap cmp m → length (with_pair cmp m k v) ≡ cond (is_some (pair_at cmp m k)) (length m) (length m + 1)
  length-with_pair [] k v s = refl
  length-with_pair (e ∷ m) k v s = by_order (cmp k e.0) refl (length-with_pair m k v (sorted_tail cmp e.0 (keys_of m) s))
    where
      by_order : (r : Ordering) → cmp k e.0 ≡ r → length (with_pair cmp m k v) ≡ cond (is_some (pair_at cmp m k)) (length m) (length m + 1)
          → length (with_pair cmp (e ∷ m) k v) ≡ cond (is_some (pair_at cmp (e ∷ m) k)) (length (e ∷ m)) (length (e ∷ m) + 1)
      by_order Less p ih = rw (p, pair_at_below m k (below_all o k e.0 (keys_of m) p (sorted_head cmp e.0 (keys_of m) s))) (omega arith)
      by_order Equal p ih = rw p refl
      by_order Greater p ih = rw p (pushed _ _ _ ih)

  pub found_in : (m : List (K × V)) (k : K) (f : K × V) → pair_at cmp m k ≡ Some f → 0 < length m
  found_in [] k f h = cc
  found_in (e ∷ m) k f h = omega arith

  pub length-without : (m : List (K × V)) (k : K) → length (without cmp m k) ≡ cond (is_some (pair_at cmp m k)) (length m - 1) (length m)
  length-without [] k = refl
  length-without (e ∷ m) k = by_test (is_eq (cmp k e.0)) refl (pair_at cmp m k) refl (length-without m k)
    where
      by_test : (b : Bool) → is_eq (cmp k e.0) ≡ b → (found : Option (K × V)) → pair_at cmp m k ≡ found → length (without cmp m k) ≡ cond (is_some (pair_at cmp m k)) (length m - 1) (length m)
          → length (without cmp (e ∷ m) k) ≡ cond (is_some (pair_at cmp (e ∷ m) k)) (length (e ∷ m) - 1) (length (e ∷ m))
      by_test true p found h ih = rw p (omega arith)
      by_test false p None h ih = rw (p, h) (let x = rw h at ih in omega arith)
      by_test false p (Some f) h ih = rw (p, h) (let x = rw h at ih in let y = found_in m k f h in omega arith)

  pub all_filter : (P : K → Type 0) (test : K × V → Bool) (m : List (K × V)) → AllByRecursion P (keys_of m) → AllByRecursion P (keys_of (filter test m))
  all_filter P test [] h = tt
  all_filter P test (e ∷ m) h = by_test (test e) refl (all_filter P test m h.1)
    where
      by_test : (b : Bool) → test e ≡ b → AllByRecursion P (keys_of (filter test m)) → AllByRecursion P (keys_of (filter test (e ∷ m)))
      by_test true p ih = rw p (h.0, ih)
      by_test false p ih = rw p ih

  -- a part of a finite map is one
  pub IsFiniteMap-filter : (test : K × V → Bool) (m : List (K × V)) → IsFiniteMap cmp m → IsFiniteMap cmp (filter test m)
  unfolding IsStrictlySortedBy
  IsFiniteMap-filter test [] s = tt
  IsFiniteMap-filter test (e ∷ m) s = by_test (test e) refl (IsFiniteMap-filter test m s.1)
    where
      by_test : (b : Bool) → test e ≡ b → IsFiniteMap cmp (filter test m) → IsFiniteMap cmp (filter test (e ∷ m))
      by_test true p ih = rw p (all_filter (λ y. cmp e.0 y ≡ Less) test m s.0, ih)
      by_test false p ih = rw p ih

  pub IsFiniteMap-map_of_pairs : (ps : List (K × V)) → IsFiniteMap cmp (map_of_pairs cmp ps)
  IsFiniteMap-map_of_pairs [] = IsFiniteMap-nil V cmp
  IsFiniteMap-map_of_pairs (p ∷ ps) = IsFiniteMap-with_pair (without cmp (map_of_pairs cmp ps) p.0) p.0 p.1 (IsFiniteMap-without (map_of_pairs cmp ps) p.0 (IsFiniteMap-map_of_pairs ps))

  -- a gathered map has the first pair of each class
  pub pair_at-map_of_pairs : (ps : List (K × V)) (q : K) → pair_at cmp (map_of_pairs cmp ps) q ≡ pair_at cmp ps q
  pair_at-map_of_pairs [] q = refl
  pair_at-map_of_pairs (p ∷ ps) q =
      let m = map_of_pairs cmp ps in
      let rest = without cmp m p.0 in
      let at_q = pair_at-without m p.0 q (IsFiniteMap-map_of_pairs ps) in
      let none : pair_at cmp rest p.0 ≡ None = pair_at-without m p.0 p.0 (IsFiniteMap-map_of_pairs ps) ∙ ap (λ b. cond b None (pair_at cmp m p.0)) (ap is_eq (tied_itself o p.0)) in
      pair_at-with_pair rest p.0 p.1 q (IsFiniteMap-without m p.0 (IsFiniteMap-map_of_pairs ps))
      ∙ ap (λ (w : Option (K × V)). cond (is_eq (cmp q p.0)) (Some (option_map_or (λ (x : K × V). x.0) w p.0, p.1)) (pair_at cmp rest q)) none
      ∙ ap (cond (is_eq (cmp q p.0)) (Some p)) (at_q ∙ ap (cond (is_eq (cmp q p.0)) None) (pair_at-map_of_pairs ps q))
      ∙ twice (is_eq (cmp q p.0)) _ _ _

module _ {K V : Type 0} (cmp : K → K → Ordering) (q : K) where
  -- where nothing is found, nothing is left out
  pub without_none : (m : List (K × V)) → pair_at cmp m q ≡ None → without cmp m q ≡ m
  without_none [] h = refl
  without_none (e ∷ m) h = by_test (is_eq (cmp q e.0)) refl (without_none m)
    where
      by_test : (b : Bool) → is_eq (cmp q e.0) ≡ b → (pair_at cmp m q ≡ None → without cmp m q ≡ m) → without cmp (e ∷ m) q ≡ e ∷ m
      by_test true p ih = let x = rw p at h in cc
      by_test false p ih = let x = rw p at h in rw p (ap (λ l. e ∷ l) (ih x))

-- one pair more
pub with_all-push : {K V : Type 0} (cmp : K → K → Ordering) (m ps : List (K × V)) (p : K × V) → with_all cmp m (ps ++ p ∷ []) ≡ with_pair cmp (with_all cmp m ps) p.0 p.1
with_all-push cmp m [] p = refl
with_all-push cmp m (q ∷ ps) p = with_all-push cmp (with_pair cmp m q.0 q.1) ps p
