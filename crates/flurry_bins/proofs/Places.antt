-- The place of a hash and a key in a bin's entries.
use Rattle.std.proofs.Common.{◌≡◌, ℕ, ◌+◌, arith, false, not, List, [], ◌∷◌, ◌++◌, length, Some, None, refl, sym, ap, ◌∙◌, cond}
use Rattle.std.specs.List.{AllByRecursion, filter}
use Rattle.std.specs.declared.cmp.Ordering.{Ordering}
use Rattle.std.specs.declared.cmp.Ordering.TheVariants.{Less, Equal, Greater}
use Rattle.std.specs.Ordering.{is_eq, is_lt, is_gt, ordering_reverse}
use Rattle.std.specs.Cmp.{IsTotalOrder}
use Rattle.std.specs.Arc.{arc_value}
use Rattle.std.specs.declared.sync.Arc.{Arc}
use Rattle.flurry_bins.specs.declared.bin.entry.Entry.{Entry}
use Rattle.flurry_base.proofs.HashOrderLaws.{hash_then_key_total}
use Rattle.flurry_bins.specs.Entries.{place_cmp, entry_cmp, IsAscending, is_before, is_past, entry_at, first_past, with_value_at, without, with_value, AllBefore, list_way}
use Rattle.flurry_base.proofs.ListParts.{IsPlace, past_behind, all_map, filter_front_kept, filter_front_lost, filter_back_kept, filter_back_lost, find_front_lost, find_back_lost, find_lost, map_front_same, map_back_same, sorted_tail}

-- a place in a total order
module _ {X : Type 0} {R : X → X → Ordering} (o : IsTotalOrder R) where
  past_by : (p x y : X) (r : Ordering) → R p x ≡ r → is_gt r ≡ false → R x y ≡ Less → R p y ≡ Less
  past_by p x y Less e n l = o.trans p x y e l
  past_by p x y Equal e n l = o.congr p x y e ∙ l
  past_by p x y Greater e n l = cc

  reversed : (p x : X) (r : Ordering) → R x p ≡ r → R p x ≡ ordering_reverse r
  reversed p x r e = o.antisymm p x ∙ ap ordering_reverse e

  before_by : (p x y : X) (r : Ordering) → R p y ≡ r → is_lt r ≡ false → R x y ≡ Less → R p x ≡ Greater
  before_by p x y Less e n l = cc
  before_by p x y Equal e n l = o.congr p y x e ∙ reversed y x Less l
  before_by p x y Greater e n l = reversed p x Less (o.trans x y p l (reversed y p Greater e))

  pub place_of : (p : X) → IsPlace R (R p)
  place_of p = record { past = λ x y n l. past_by p x y (R p x) refl n l; before = λ x y n l. before_by p x y (R p y) refl n l }

module _ {K V A : Type 0} {cmp : K → K → Ordering} (o : IsTotalOrder cmp) (h : ℕ) (k : K) where
  pub place : IsPlace {X = Entry K V A} (entry_cmp cmp) (place_cmp cmp h k)
  place =
      let p = place_of (hash_then_key_total o) (h, k) in
      record { past = λ x y n l. p.past (x.hash, arc_value x.key) (y.hash, arc_value y.key) n l; before = λ x y n l. p.before (x.hash, arc_value x.key) (y.hash, arc_value y.key) n l }

-- all of them stand past the place of (h, k)
abbrev pub AllPast : {K V A : Type 0} → (K → K → Ordering) → ℕ → K → List (Entry K V A) → Type 0
AllPast cmp h k es = AllByRecursion (λ e. place_cmp cmp h k e ≡ Less) es

module _ {K V A : Type 0} (cmp : K → K → Ordering) (h : ℕ) (k : K) (ds es : List (Entry K V A)) where
  module _ (p : AllPast cmp h k es) where
    pub entry_at-back : entry_at cmp h k (ds ++ es) ≡ entry_at cmp h k ds
    entry_at-back = find_back_lost _ ds es (all_map _ _ (λ x e. ap is_eq e) es p)

    pub without-back : without cmp h k (ds ++ es) ≡ without cmp h k ds ++ es
    without-back = filter_back_kept _ ds es (all_map _ _ (λ x e. ap (λ r. not (is_eq r)) e) es p)

    pub before-back : filter (is_before cmp h k) (ds ++ es) ≡ filter (is_before cmp h k) ds
    before-back = filter_back_lost _ ds es (all_map _ _ (λ x e. ap is_gt e) es p)

    pub past-back : filter (is_past cmp h k) (ds ++ es) ≡ filter (is_past cmp h k) ds ++ es
    past-back = filter_back_kept _ ds es (all_map _ _ (λ x e. ap is_lt e) es p)

    pub with_value_at-back : (v : Arc V A) (n : ℕ) → with_value_at cmp h k v n (ds ++ es) ≡ with_value_at cmp h k v n ds ++ es
    with_value_at-back v n = map_back_same _ ds es (all_map _ _ (λ x e. ap (λ r. cond (is_eq r) (with_value x v n) x) e) es p)

  module _ (p : AllBefore cmp h k ds) where
    pub entry_at-front : entry_at cmp h k (ds ++ es) ≡ entry_at cmp h k es
    entry_at-front = find_front_lost _ ds es (all_map _ _ (λ x e. ap is_eq e) ds p)

    pub without-front : without cmp h k (ds ++ es) ≡ ds ++ without cmp h k es
    without-front = filter_front_kept _ ds es (all_map _ _ (λ x e. ap (λ r. not (is_eq r)) e) ds p)

    pub before-front : filter (is_before cmp h k) (ds ++ es) ≡ ds ++ filter (is_before cmp h k) es
    before-front = filter_front_kept _ ds es (all_map _ _ (λ x e. ap is_gt e) ds p)

    pub past-front : filter (is_past cmp h k) (ds ++ es) ≡ filter (is_past cmp h k) es
    past-front = filter_front_lost _ ds es (all_map _ _ (λ x e. ap is_lt e) ds p)

    pub with_value_at-front : (v : Arc V A) (n : ℕ) → with_value_at cmp h k v n (ds ++ es) ≡ ds ++ with_value_at cmp h k v n es
    with_value_at-front v n = map_front_same _ ds es (all_map _ _ (λ x e. ap (λ r. cond (is_eq r) (with_value x v n) x) e) ds p)

    pub first_past-front : first_past cmp (Some (h, k)) (ds ++ es) ≡ first_past cmp (Some (h, k)) es
    first_past-front = find_front_lost _ ds es (all_map _ _ (λ x e. ap is_lt e) ds p)

-- what is known of a list that begins with e
module _ {K V A : Type 0} {cmp : K → K → Ordering} (o : IsTotalOrder cmp) (h : ℕ) (k : K) (e : Entry K V A) (es : List (Entry K V A)) (up : IsAscending cmp (e ∷ es)) where
  pub past_rest : is_gt (place_cmp cmp h k e) ≡ false → AllPast cmp h k es
  past_rest n = past_behind (entry_cmp cmp) (place_cmp cmp h k) (place o h k) e es up n

  -- the place is before e: nothing is there
  pub none_there : place_cmp cmp h k e ≡ Less → entry_at cmp h k (e ∷ es) ≡ None
  none_there l = find_lost _ (e ∷ es) (ap is_eq l, all_map _ _ (λ x p. ap is_eq p) es (past_rest (ap is_gt l)))

-- the place is past e, or at it
module _ {K V A : Type 0} (cmp : K → K → Ordering) (h : ℕ) (k : K) (e : Entry K V A) (es : List (Entry K V A)) where
  pub way_further : place_cmp cmp h k e ≡ Greater → list_way cmp h k (e ∷ es) ≡ e ∷ list_way cmp h k es
  way_further g = ap (λ r. e ∷ cond (is_gt r) (list_way cmp h k es) []) g

  pub entry_further : place_cmp cmp h k e ≡ Greater → entry_at cmp h k (e ∷ es) ≡ entry_at cmp h k es
  entry_further g = ap (λ r. cond (is_eq r) (Some e) (entry_at cmp h k es)) g

-- one step of a walk along a list, past e
pub record IsStep {K V A : Type 0} (cmp : K → K → Ordering) (h : ℕ) (k : K) (es rest : List (Entry K V A)) : Type 0 where
  pub ascending : IsAscending cmp rest
  pub found : entry_at cmp h k rest ≡ entry_at cmp h k es
  pub visits : length (list_way cmp h k rest) + 1 ≡ length (list_way cmp h k es)
  pub shorter : length rest + 1 ≡ length es

pub step_past : {K V A : Type 0} (cmp : K → K → Ordering) (h : ℕ) (k : K) (e : Entry K V A) (es rest : List (Entry K V A)) → es ≡ e ∷ rest → IsAscending cmp es → place_cmp cmp h k e ≡ Greater → IsStep cmp h k es rest
step_past cmp h k e es rest is up g =
    rw is (record {
      ascending = sorted_tail (entry_cmp cmp) e rest (rw is at up);
      found = sym (entry_further cmp h k e rest g);
      visits = omega (arith, ap length (way_further cmp h k e rest g));
      shorter = omega arith;
    })
