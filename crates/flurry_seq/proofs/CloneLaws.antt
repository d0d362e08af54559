-- A table's pairs, put one by one into an empty map, make its finite map.
use Rattle.std.proofs.Common.{◌≡◌, ℕ, Bool, true, false, cond, List, [], ◌∷◌, ◌++◌, map, Some, None, refl, sym, ap, ◌∙◌, Ordering, Less, Equal, Greater}
use Rattle.std.specs.Ordering.{is_eq}
use Rattle.std.specs.Cmp.{IsTotalOrder, tied_back}
use Rattle.std.specs.List.{AllByRecursion}
use Rattle.flurry_base.specs.FiniteMap.{IsFiniteMap, pair_at, with_pair, map_of_pairs}
use Rattle.flurry_base.proofs.FiniteMapLaws.{IsFiniteMap-nil, IsFiniteMap-with_pair, IsFiniteMap-map_of_pairs, pair_at-with_pair, pair_at-map_of_pairs, same_map}
use Rattle.flurry_seq.specs.Table.{pair_of}
use Rattle.flurry_seq.specs.Apart.{AreApart, AreHashed}

eq_of : (r : Ordering) → is_eq r ≡ true → r ≡ Equal
eq_of Less e = cc
eq_of Equal e = refl
eq_of Greater e = cc

-- the map with all these pairs put
abbrev pub put_all : {K V : Type 0} → (K → K → Ordering) → List (K × V) → List (K × V) → List (K × V)
put_all cmp m [] = m
put_all cmp m (p ∷ ps) = put_all cmp (with_pair cmp m p.0 p.1) ps

-- the map has nothing at their classes
abbrev pub AreAbsent : {K V : Type 0} → (K → K → Ordering) → List (K × V) → List (K × V) → Type 0
AreAbsent cmp m ps = AllByRecursion (λ p. pair_at cmp m p.0 ≡ None) ps

module _ {K V : Type 0} {cmp : K → K → Ordering} (o : IsTotalOrder cmp) where
  -- pairs of other classes than k stay absent where k is put
  still_absent : (m ps : List (K × V)) (k : K) (v : V) → IsFiniteMap cmp m → pair_at cmp ps k ≡ None → AreAbsent cmp m ps → AreAbsent cmp (with_pair cmp m k v) ps
  still_absent m [] k v s none h = tt
  still_absent m (p ∷ ps) k v s none h = by_test (is_eq (cmp k p.0)) refl (still_absent m ps k v s)
    where
      by_test : (t : Bool) → is_eq (cmp k p.0) ≡ t → (pair_at cmp ps k ≡ None → AreAbsent cmp m ps → AreAbsent cmp (with_pair cmp m k v) ps) → AreAbsent cmp (with_pair cmp m k v) (p ∷ ps)
      by_test true e ih = let there = rw e at none in cc
      by_test false e ih =
          let other : is_eq (cmp p.0 k) ≡ false = by_back (is_eq (cmp p.0 k)) refl in
          (pair_at-with_pair o m k v p.0 s ∙ rw other h.0, ih (rw e at none) h.1)
        where
          by_back : (b : Bool) → is_eq (cmp p.0 k) ≡ b → b ≡ false
          by_back true f = let tied : cmp k p.0 ≡ Equal = tied_back o p.0 k (eq_of _ f) in let no : true ≡ false = sym (ap is_eq tied) ∙ e in cc
          by_back false f = refl

  -- alike keys find the same
  pub alike_at : (ps : List (K × V)) (q k : K) → cmp q k ≡ Equal → pair_at cmp ps q ≡ pair_at cmp ps k
  alike_at [] q k e = refl
  alike_at (p ∷ ps) q k e = ap (λ r. cond (is_eq r) (Some p) (pair_at cmp ps q)) (o.congr q k p.0 e) ∙ ap (λ w. cond (is_eq (cmp k p.0)) (Some p) w) (alike_at ps q k e)

  behind_none : (ps m : List (K × V)) (q : K) → pair_at cmp ps q ≡ None → pair_at cmp (ps ++ m) q ≡ pair_at cmp m q
  behind_none [] m q h = refl
  behind_none (p ∷ ps) m q h = by_test (is_eq (cmp q p.0)) refl (behind_none ps m q)
    where
      by_test : (t : Bool) → is_eq (cmp q p.0) ≡ t → (pair_at cmp ps q ≡ None → pair_at cmp (ps ++ m) q ≡ pair_at cmp m q) → pair_at cmp (p ∷ (ps ++ m)) q ≡ pair_at cmp m q
      by_test true e ih = let there = rw e at h in cc
      by_test false e ih = rw e (ih (rw e at h))

  behind_same : (ps m n : List (K × V)) (q : K) → pair_at cmp m q ≡ pair_at cmp n q → pair_at cmp (ps ++ m) q ≡ pair_at cmp (ps ++ n) q
  behind_same [] m n q h = h
  behind_same (p ∷ ps) m n q h = ap (cond (is_eq (cmp q p.0)) (Some p)) (behind_same ps m n q h)

  IsFiniteMap-put_all : (m ps : List (K × V)) → IsFiniteMap cmp m → IsFiniteMap cmp (put_all cmp m ps)
  IsFiniteMap-put_all m [] s = s
  IsFiniteMap-put_all m (p ∷ ps) s = IsFiniteMap-put_all (with_pair cmp m p.0 p.1) ps (IsFiniteMap-with_pair o m p.0 p.1 s)

  at_put_all : (m ps : List (K × V)) (q : K) → IsFiniteMap cmp m → AreApart cmp ps → AreAbsent cmp m ps → pair_at cmp (put_all cmp m ps) q ≡ pair_at cmp (ps ++ m) q
  at_put_all m [] q s apart absent = refl
  at_put_all m (p ∷ ps) q s apart absent =
      at_put_all (with_pair cmp m p.0 p.1) ps q (IsFiniteMap-with_pair o m p.0 p.1 s) apart.1 (still_absent m ps p.0 p.1 s apart.0 absent.1) ∙ by_test (is_eq (cmp q p.0)) refl
    where
      by_test : (t : Bool) → is_eq (cmp q p.0) ≡ t → pair_at cmp (ps ++ with_pair cmp m p.0 p.1) q ≡ cond t (Some p) (pair_at cmp (ps ++ m) q)
      by_test true e =
          behind_none ps (with_pair cmp m p.0 p.1) q (alike_at ps q p.0 (eq_of _ e) ∙ apart.0)
          ∙ pair_at-with_pair o m p.0 p.1 q s
          ∙ rw (e, absent.0) refl
      by_test false e = behind_same ps (with_pair cmp m p.0 p.1) m q (pair_at-with_pair o m p.0 p.1 q s ∙ rw e refl)

  all_absent : (ps : List (K × V)) → AreAbsent cmp [] ps
  all_absent [] = tt
  all_absent (p ∷ ps) = (refl, all_absent ps)

  append_none : (ps : List (K × V)) (q : K) → pair_at cmp (ps ++ []) q ≡ pair_at cmp ps q
  append_none [] q = refl
  append_none (p ∷ ps) q = ap (cond (is_eq (cmp q p.0)) (Some p)) (append_none ps q)

  put_all-map_of_pairs : (ps : List (K × V)) → AreApart cmp ps → put_all cmp [] ps ≡ map_of_pairs cmp ps
  put_all-map_of_pairs ps apart =
      same_map o _ _ (IsFiniteMap-put_all [] ps (IsFiniteMap-nil V cmp)) (IsFiniteMap-map_of_pairs o ps)
      (λ q. at_put_all [] ps q (IsFiniteMap-nil V cmp) apart (all_absent ps) ∙ append_none ps q ∙ sym (pair_at-map_of_pairs o ps q))

-- the entries are left to be put into m, and make whole of it
pub record IsRest {K V : Type 0} (cmp : K → K → Ordering) (hash : K → ℕ) (whole m : List (K × V)) (es : List ((ℕ × K) × V)) : Type 0 where
  pub sorted : IsFiniteMap cmp m
  pub apart : AreApart cmp (map pair_of es)
  pub hashed : AreHashed hash es
  pub absent : AreAbsent cmp m (map pair_of es)
  pub makes : put_all cmp m (map pair_of es) ≡ whole

module _ {K V : Type 0} {cmp : K → K → Ordering} (o : IsTotalOrder cmp) (hash : K → ℕ) (whole : List (K × V)) where
  pub rest_first : (es : List ((ℕ × K) × V)) → AreApart cmp (map pair_of es) → AreHashed hash es → map_of_pairs cmp (map pair_of es) ≡ whole → IsRest cmp hash whole [] es
  rest_first es apart hashed is = record {
    sorted = IsFiniteMap-nil V cmp;
    apart = apart;
    hashed = hashed;
    absent = all_absent o (map pair_of es);
    makes = put_all-map_of_pairs o (map pair_of es) apart ∙ is;
  }

  pub rest_next : (m : List (K × V)) (e : (ℕ × K) × V) (es : List ((ℕ × K) × V)) → IsRest cmp hash whole m (e ∷ es) → IsRest cmp hash whole (with_pair cmp m e.0.1 e.1) es
  rest_next m e es r = record {
    sorted = IsFiniteMap-with_pair o m e.0.1 e.1 r.sorted;
    apart = r.apart.1;
    hashed = r.hashed.1;
    absent = still_absent o m (map pair_of es) e.0.1 e.1 r.sorted r.apart.0 r.absent.1;
    makes = r.makes;
  }
