-- What an owned set is seen as.
use Rattle.std.specs.Prelude.{◌≡◌, ◌+◌, ◌-◌, ◌^◌, min, length, ℕ, Bool, List, refl}
use Rattle.std.specs.Coded.{Coded, code_by, coded×, coded_list, coded_ℕ}
use Rattle.std.specs.declared.cmp.Ordering.{Ordering}
use Rattle.std.specs.Ordering.{eq_by_cmp}
use Rattle.std.specs.Cmp.{IsTotalOrder, IsPartialEquivalence, IsEquivalence, eq_by_cmp_equiv, partial_equiv_from_equiv, on_per, on_equiv}
use Rattle.std.specs.Cmp.Lexicographic.{pointwise, lists_per, lists_equiv}
use Rattle.std.specs.Map.{keys_of}
use Rattle.flurry_base.specs.Sizes.{wanted_of}
use Rattle.flurry_seq.specs.Contents.{Contents}

-- the elements, which are a finite set; the number of bins, 0 without a table; and the hasher
pub record SetContents (T S : Type 0) : Type 0 where
  pub elements : List T
  pub bins : ℕ
  pub hasher : S

module _ {T S : Type 0} where
  abbrev pub set_contents : List T → ℕ → S → SetContents T S
  set_contents xs n s = record { elements = xs; bins = n; hasher = s }

  -- the keys of a map
  abbrev pub keys_in : {V : Type 0} → Contents T V S → SetContents T S
  keys_in m = set_contents (keys_of m.pairs) m.bins m.hasher

  -- the set with other elements, in as many bins
  abbrev pub set_with : SetContents T S → List T → SetContents T S
  set_with s xs = record s { elements = xs }

  abbrev pub set_contents_code : Coded T → Coded S → Coded (SetContents T S)
  set_contents_code t s = code_by (List T × (ℕ × S)) (coded× (coded_list t) (coded× coded_ℕ s)) (λ c. (c.elements, (c.bins, c.hasher))) (λ p. set_contents p.0 p.1.0 p.1.1) (λ _. refl)

  -- only the number of bins may differ
  abbrev pub SameElements : SetContents T S → SetContents T S → Type 0
  SameElements old new = (new.elements ≡ old.elements) × (new.hasher ≡ old.hasher)

  -- the bins that are asked for where room for so many more elements is made; the sum stops at the greatest number
  abbrev pub asked_for : SetContents T S → ℕ → ℕ
  asked_for s additional = wanted_of (min (length s.elements + additional) (2 ^ 64 - 1))

  -- two sets, place by place: the elements stand in their order
  abbrev pub sets_eq : (T → T → Ordering) → SetContents T S → SetContents T S → Bool
  sets_eq cmp a b = pointwise (eq_by_cmp cmp) a.elements b.elements

module _ {T S : Type 0} {cmp : T → T → Ordering} (o : IsTotalOrder cmp) where
  pub sets_eq_per : IsPartialEquivalence (sets_eq {S = S} cmp)
  sets_eq_per = on_per (λ (s : SetContents T S). s.elements) (lists_per (partial_equiv_from_equiv (eq_by_cmp_equiv o)))

  pub sets_eq_equiv : IsEquivalence (sets_eq {S = S} cmp)
  sets_eq_equiv = on_equiv (λ (s : SetContents T S). s.elements) (lists_equiv (eq_by_cmp_equiv o))
