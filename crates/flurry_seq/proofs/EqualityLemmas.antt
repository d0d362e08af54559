-- Two finite maps are equal place by place exactly if they are at each key, and exactly if they are as long and each pair of
-- one is met in the other.
use Rattle.std.proofs.Common.{◌≡◌, suc, ◌≤◌, Bool, true, false, ◌&&◌, List, [], ◌∷◌, length, Some, None, option_map, refl, sym, ap, ◌∙◌, arith, Ordering, Less, Equal, Greater}
use Rattle.std.specs.Prelude.{IsTrue, ◌↔◌}
use Rattle.std.specs.Ordering.{is_eq, ordering_reverse}
use Rattle.std.specs.Cmp.{IsTotalOrder, tied_itself, tied_back, alike_right, first_so, second_so}
use Rattle.std.specs.Cmp.Lexicographic.{pointwise}
use Rattle.std.specs.Option.{option_eq}
use Rattle.std.specs.Map.{keys_of}
use Rattle.std.specs.List.{AllByRecursion, list_all}
use Rattle.std.proofs.lemmas.Map.Keys.{sorted_head, sorted_tail}
use Rattle.flurry_base.specs.FiniteMap.{IsFiniteMap, value_at}
use Rattle.flurry_base.proofs.FiniteMapLaws.{below_all, alike_all, pair_at_below}
use Rattle.flurry_seq.specs.Equality.{pair_eq, has_pair}

eq_of : (r : Ordering) → is_eq r ≡ true → r ≡ Equal
eq_of Less e = cc
eq_of Equal e = refl
eq_of Greater e = cc

not_true : (b : Bool) → (b ≡ true → ⊥) → b ≡ false
not_true true h = absurd (h refl)
not_true false h = refl

module _ {K V : Type 0} {cmp : K → K → Ordering} (o : IsTotalOrder cmp) (eq : V → V → Bool) where
  turned : (x y : K) → cmp x y ≡ Less → cmp y x ≡ Greater
  turned x y l = o.antisymm y x ∙ ap ordering_reverse l

  less_of : (x y : K) → cmp x y ≡ Greater → cmp y x ≡ Less
  less_of x y g = o.antisymm y x ∙ ap ordering_reverse g

  -- pairs past a map's first key are met in its rest
  met_behind : (y : K × V) (b ps : List (K × V)) → AllByRecursion (λ k. cmp y.0 k ≡ Less) (keys_of ps) → list_all (has_pair cmp eq (y ∷ b)) ps ≡ list_all (has_pair cmp eq b) ps
  met_behind y b [] h = refl
  met_behind y b (p ∷ ps) h = rw (turned y.0 p.0 h.0) (ap (λ t. has_pair cmp eq b p && t) (met_behind y b ps h.1))

  -- a pair before a map's first key is not met
  not_met : (x y : K × V) (b : List (K × V)) → IsFiniteMap cmp (y ∷ b) → cmp x.0 y.0 ≡ Less → value_at cmp (y ∷ b) x.0 ≡ None
  not_met x y b s l = ap (option_map (λ p. p.1)) (pair_at_below o (y ∷ b) x.0 (l, below_all o x.0 y.0 (keys_of b) l (sorted_head cmp y.0 (keys_of b) s)))

  never : (x y : K × V) (a b : List (K × V)) → IsFiniteMap cmp (y ∷ b) → cmp x.0 y.0 ≡ Less → list_all (has_pair cmp eq (y ∷ b)) (x ∷ a) ≡ false
  never x y a b s l = rw (not_met x y b s l) refl

  -- pairs that are met are no more than those of the map
  met_within : (a b : List (K × V)) → IsFiniteMap cmp a → IsFiniteMap cmp b → list_all (has_pair cmp eq b) a ≡ true → length a ≤ length b
  met_within [] b s t h = omega arith
  met_within (x ∷ a) [] s t h = cc
  met_within (x ∷ a) (y ∷ b) s t h = by_order (cmp x.0 y.0) refl (met_within a b (sorted_tail cmp x.0 (keys_of a) s) (sorted_tail cmp y.0 (keys_of b) t)) (met_within (x ∷ a) b s (sorted_tail cmp y.0 (keys_of b) t))
    where
      by_order : (r : Ordering) → cmp x.0 y.0 ≡ r → (list_all (has_pair cmp eq b) a ≡ true → length a ≤ length b) → (list_all (has_pair cmp eq b) (x ∷ a) ≡ true → suc (length a) ≤ length b)
          → suc (length a) ≤ suc (length b)
      by_order Less p ih further = let no : true ≡ false = sym h ∙ never x y a b t p in cc
      by_order Equal p ih further =
          let above = alike_all o (keys_of a) y.0 x.0 (tied_back o x.0 y.0 p) (sorted_head cmp x.0 (keys_of a) s) in
          omega (arith, ih (sym (met_behind y b a above) ∙ second_so (has_pair cmp eq (y ∷ b) x) _ h))
      by_order Greater p ih further =
          let below = less_of x.0 y.0 p in
          omega (arith, further (sym (met_behind y b (x ∷ a) (below, below_all o y.0 x.0 (keys_of a) below (sorted_head cmp x.0 (keys_of a) s))) ∙ h))

  -- equal place by place: as long, and each pair of one is met in the other
  pub as_met : (a b : List (K × V)) → IsFiniteMap cmp a → IsFiniteMap cmp b → length a ≡ length b → pointwise (pair_eq cmp eq) a b ≡ list_all (has_pair cmp eq b) a
  as_met [] [] s t same = refl
  as_met [] (y ∷ b) s t same = absurd (omega arith)
  as_met (x ∷ a) [] s t same = absurd (omega arith)
  as_met (x ∷ a) (y ∷ b) s t same = by_order (cmp x.0 y.0) refl (as_met a b (sorted_tail cmp x.0 (keys_of a) s) (sorted_tail cmp y.0 (keys_of b) t) (omega arith))
    where
      by_order : (r : Ordering) → cmp x.0 y.0 ≡ r → pointwise (pair_eq cmp eq) a b ≡ list_all (has_pair cmp eq b) a → pointwise (pair_eq cmp eq) (x ∷ a) (y ∷ b) ≡ list_all (has_pair cmp eq (y ∷ b)) (x ∷ a)
      by_order Less p ih = ap (λ r. (is_eq r && eq x.1 y.1) && pointwise (pair_eq cmp eq) a b) p ∙ sym (never x y a b t p)
      by_order Equal p ih =
          let above = alike_all o (keys_of a) y.0 x.0 (tied_back o x.0 y.0 p) (sorted_head cmp x.0 (keys_of a) s) in
          rw p (ap (λ w. eq x.1 y.1 && w) (ih ∙ sym (met_behind y b a above)))
      by_order Greater p ih =
          let below = less_of x.0 y.0 p in
          let behind = met_behind y b (x ∷ a) (below, below_all o y.0 x.0 (keys_of a) below (sorted_head cmp x.0 (keys_of a) s)) in
          let within : list_all (has_pair cmp eq (y ∷ b)) (x ∷ a) ≡ true → suc (length a) ≤ length b = λ all. met_within (x ∷ a) b s (sorted_tail cmp y.0 (keys_of b) t) (sym behind ∙ all) in
          ap (λ r. (is_eq r && eq x.1 y.1) && pointwise (pair_eq cmp eq) a b) p
          ∙ sym (not_true (list_all (has_pair cmp eq (y ∷ b)) (x ∷ a)) (λ all. let less = within all in omega arith))

  -- equal place by place: equal at each key
  pub equal_at_keys : (a b : List (K × V)) → pointwise (pair_eq cmp eq) a b ≡ true → (q : K) → option_eq eq (value_at cmp a q) (value_at cmp b q) ≡ true
  equal_at_keys [] [] h q = refl
  equal_at_keys [] (y ∷ b) h q = cc
  equal_at_keys (x ∷ a) [] h q = cc
  equal_at_keys (x ∷ a) (y ∷ b) h q =
      by_test (is_eq (cmp q x.0)) refl (ap is_eq (sym (alike_right o x.0 y.0 q (eq_of _ (first_so _ _ here))))) (equal_at_keys a b (second_so (pair_eq cmp eq x y) _ h) q)
    where
      here : pair_eq cmp eq x y ≡ true
      here = first_so (pair_eq cmp eq x y) (pointwise (pair_eq cmp eq) a b) h

      by_test : (w : Bool) → is_eq (cmp q x.0) ≡ w → is_eq (cmp q y.0) ≡ is_eq (cmp q x.0) → option_eq eq (value_at cmp a q) (value_at cmp b q) ≡ true
          → option_eq eq (value_at cmp (x ∷ a) q) (value_at cmp (y ∷ b) q) ≡ true
      by_test true p same ih = rw (same, p) (second_so (is_eq (cmp x.0 y.0)) (eq x.1 y.1) here)
      by_test false p same ih = rw (same, p) ih

  there : (x : K × V) (m : List (K × V)) → value_at cmp (x ∷ m) x.0 ≡ Some x.1
  there x m = rw (tied_itself o x.0) refl

  -- nothing is at the class of a map's first key behind it
  none_behind : (x : K × V) (m : List (K × V)) (q : K) → IsFiniteMap cmp (x ∷ m) → cmp q x.0 ≡ Equal → value_at cmp m q ≡ None
  none_behind x m q s e = ap (option_map (λ p. p.1)) (pair_at_below o m q (alike_all o (keys_of m) q x.0 e (sorted_head cmp x.0 (keys_of m) s)))

  pub from_equal_at_keys : (a b : List (K × V)) → IsFiniteMap cmp a → IsFiniteMap cmp b → ((q : K) → option_eq eq (value_at cmp a q) (value_at cmp b q) ≡ true) → pointwise (pair_eq cmp eq) a b ≡ true
  from_equal_at_keys [] [] s t h = refl
  from_equal_at_keys [] (y ∷ b) s t h = let no : false ≡ true = ap (λ w. option_eq eq None w) (sym (there y b)) ∙ h y.0 in cc
  from_equal_at_keys (x ∷ a) [] s t h = let no : false ≡ true = ap (λ w. option_eq eq w None) (sym (there x a)) ∙ h x.0 in cc
  from_equal_at_keys (x ∷ a) (y ∷ b) s t h = by_order (cmp x.0 y.0) refl (from_equal_at_keys a b (sorted_tail cmp x.0 (keys_of a) s) (sorted_tail cmp y.0 (keys_of b) t))
    where
      behind : cmp x.0 y.0 ≡ Equal → (q : K) (w : Bool) → is_eq (cmp q x.0) ≡ w → option_eq eq (value_at cmp a q) (value_at cmp b q) ≡ true
      behind p q true e =
          let at_x : cmp q x.0 ≡ Equal = eq_of _ e in
          rw (none_behind x a q s at_x, none_behind y b q t (sym (alike_right o x.0 y.0 q p) ∙ at_x)) refl
      behind p q false e =
          let at_y : is_eq (cmp q y.0) ≡ false = ap is_eq (sym (alike_right o x.0 y.0 q p)) ∙ e in
          rw (e, at_y) at (h q)

      by_order : (r : Ordering) → cmp x.0 y.0 ≡ r → (((q : K) → option_eq eq (value_at cmp a q) (value_at cmp b q) ≡ true) → pointwise (pair_eq cmp eq) a b ≡ true) → pointwise (pair_eq cmp eq) (x ∷ a) (y ∷ b) ≡ true
      by_order Less p ih =
          let no : false ≡ true = ap (λ w. option_eq eq w None) (sym (there x a)) ∙ ap (λ w. option_eq eq (value_at cmp (x ∷ a) x.0) w) (sym (not_met x y b t p)) ∙ h x.0 in
          cc
      by_order Greater p ih =
          let no : false ≡ true = ap (λ w. option_eq eq None w) (sym (there y b)) ∙ ap (λ w. option_eq eq w (value_at cmp (y ∷ b) y.0)) (sym (not_met y x a s (less_of x.0 y.0 p))) ∙ h y.0 in
          cc
      by_order Equal p ih =
          let value_y : value_at cmp (y ∷ b) x.0 ≡ Some y.1 = rw p refl in
          let values : eq x.1 y.1 ≡ true = ap (λ w. option_eq eq w (Some y.1)) (sym (there x a)) ∙ ap (λ w. option_eq eq (value_at cmp (x ∷ a) x.0) w) (sym value_y) ∙ h x.0 in
          rw (p, values, ih (λ q. behind p q (is_eq (cmp q x.0)) refl)) refl

  -- the two readings of equality say the same
  pub decides_keys : (a b : List (K × V)) (r : Bool) → IsFiniteMap cmp a → IsFiniteMap cmp b → r ≡ pointwise (pair_eq cmp eq) a b → IsTrue r ↔ ((q : K) → IsTrue (option_eq eq (value_at cmp a q) (value_at cmp b q)))
  decides_keys a b r s t is = (λ e q. equal_at_keys a b (sym is ∙ e) q, λ h. is ∙ from_equal_at_keys a b s t h)
