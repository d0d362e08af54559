-- When two maps are equal.
use Rattle.std.specs.Prelude.{◌&&◌, List, Bool, Some}
use Rattle.std.specs.declared.cmp.Ordering.{Ordering}
use Rattle.std.specs.Ordering.{is_eq}
use Rattle.std.specs.Cmp.{IsTotalOrder, IsPartialEquivalence, IsEquivalence, eq_by_cmp_equiv, partial_equiv_from_equiv, on_per, on_equiv, and_per, and_equiv}
use Rattle.std.specs.Cmp.Lexicographic.{pointwise, lists_per, lists_equiv}
use Rattle.std.specs.Option.{option_eq}
use Rattle.flurry_base.specs.FiniteMap.{value_at}
use Rattle.flurry_seq.specs.Contents.{Contents}

module _ {K V : Type 0} (cmp : K → K → Ordering) (eq : V → V → Bool) where
  -- the keys are of one class, and the values are equal
  abbrev pub pair_eq : K × V → K × V → Bool
  pair_eq x y = is_eq (cmp x.0 y.0) && eq x.1 y.1

  -- two maps, place by place: the pairs stand in the order of the keys
  abbrev pub maps_eq : {S : Type 0} → Contents K V S → Contents K V S → Bool
  maps_eq a b = pointwise pair_eq a.pairs b.pairs

  -- a map has a pair of that class, with an equal value
  abbrev pub has_pair : List (K × V) → K × V → Bool
  has_pair m x = option_eq eq (Some x.1) (value_at cmp m x.0)

module _ {K V : Type 0} {cmp : K → K → Ordering} {eq : V → V → Bool} (o : IsTotalOrder cmp) where
  pub maps_eq_per : {S : Type 0} → IsPartialEquivalence eq → IsPartialEquivalence (maps_eq cmp eq {S = S})
  maps_eq_per {S} e =
      on_per (λ (m : Contents K V S). m.pairs) (lists_per (and_per (on_per (λ (x : K × V). x.0) (partial_equiv_from_equiv (eq_by_cmp_equiv o))) (on_per (λ (x : K × V). x.1) e)))

  pub maps_eq_equiv : {S : Type 0} → IsEquivalence eq → IsEquivalence (maps_eq cmp eq {S = S})
  maps_eq_equiv {S} e =
      on_equiv (λ (m : Contents K V S). m.pairs) (lists_equiv (and_equiv (on_equiv (λ (x : K × V). x.0) (eq_by_cmp_equiv o)) (on_equiv (λ (x : K × V). x.1) e)))
