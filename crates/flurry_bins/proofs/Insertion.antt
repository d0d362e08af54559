-- A new entry in a tree.
use Rattle.std.proofs.Common.{◌≡◌, ℕ, arith, true, false, List, [], ◌∷◌, ◌++◌, refl, sym, ap, ◌∙◌, cond, append_assoc}
use Rattle.std.specs.List.{filter}
use Rattle.std.specs.declared.cmp.Ordering.{Ordering}
use Rattle.std.specs.declared.cmp.Ordering.TheVariants.{Less, Equal, Greater}
use Rattle.std.specs.Ordering.{is_lt, is_gt}
use Rattle.std.specs.Cmp.{IsTotalOrder}
use Rattle.std.specs.Option.{IsNone}
use Rattle.std.specs.Arc.{arc_value}
use Rattle.flurry_bins.specs.declared.bin.entry.Entry.{Entry}
use Rattle.flurry_bins.specs.declared.bin.node.Colour.{Colour}
use Rattle.flurry_bins.specs.Entries.{place_cmp, entry_cmp, IsAscending, entry_at, is_before, is_past, with_entry, AllBefore}
use Rattle.flurry_bins.specs.Tree.{Tree, leaf, fork, inorder, root_redness, black_height, IsRedBlack}
use Rattle.flurry_bins.specs.Balance.{balance_left, balance_right, put_tree}
use Rattle.flurry_base.proofs.ListParts.{sorted_tail, sorted_front, sorted_back}
use Rattle.flurry_bins.proofs.Places.{AllPast, past_rest, before-back, past-back, before-front, past-front}
use Rattle.flurry_bins.proofs.Trees.{found_here, found_left, found_right, past_right, before_left}
use Rattle.flurry_bins.proofs.Edits.{IsPut, put_at}
use Rattle.flurry_bins.proofs.RedBlack.{IsNearly, balance_left-ok, balance_right-ok, inorder-balance_left, inorder-balance_right}

-- what a new entry makes of a tree
pub record IsGrown {E : Type 0} (t u : Tree E) : Type 0 where
  pub nearly : IsNearly (root_redness t) u
  pub as_high : black_height u ≡ black_height t

grown_left : {E : Type 0} (c : Colour) (l : Tree E) (e : E) (r u : Tree E) → IsRedBlack (fork c l e r) → IsGrown l u → IsGrown (fork c l e r) (balance_left c u e r)
grown_left c l e r u k g =
    let a = balance_left-ok c u e r (root_redness l) g.nearly k.1.0 (g.as_high ∙ k.1.1.0) (omega (arith, k.1.1.1.0)) k.1.1.1.1 in
    record { nearly = a.0; as_high = omega (arith, a.1, g.as_high) }

grown_right : {E : Type 0} (c : Colour) (l : Tree E) (e : E) (r u : Tree E) → IsRedBlack (fork c l e r) → IsGrown r u → IsGrown (fork c l e r) (balance_right c l e u)
grown_right c l e r u k g =
    let a = balance_right-ok c l e u (root_redness r) k.0 g.nearly (k.1.1.0 ∙ sym g.as_high) (omega (arith, k.1.1.1.1)) k.1.1.1.0 in
    record { nearly = a.0; as_high = omega (arith, a.1) }

pub put_tree-grown : {K V A : Type 0} (cmp : K → K → Ordering) (x : Entry K V A) (t : Tree (Entry K V A)) → IsRedBlack t → IsGrown t (put_tree cmp x t)
put_tree-grown cmp x leaf k = record { nearly = (tt, (tt, (refl, (omega arith, omega arith)))); as_high = omega arith }
put_tree-grown cmp x (fork c l e r) k =
    let left = grown_left c l e r _ k (put_tree-grown cmp x l k.0) in
    let right = grown_right c l e r _ k (put_tree-grown cmp x r k.1.0) in
    elim (is_lt (entry_cmp cmp x e)) as (λ b. IsGrown (fork c l e r) (cond b (balance_left c (put_tree cmp x l) e r) (balance_right c l e (put_tree cmp x r)))) [ true ↦ left | false ↦ right ]

-- which side of a place the entries are on, where nothing is at it
record Parts {K V A : Type 0} (cmp : K → K → Ordering) (h : ℕ) (k : K) (es : List (Entry K V A)) : Type 0 where
  first : List (Entry K V A)
  last : List (Entry K V A)
  is : es ≡ first ++ last
  before : AllBefore cmp h k first
  past : AllPast cmp h k last

module _ {K V A : Type 0} {cmp : K → K → Ordering} (o : IsTotalOrder cmp) where
  parts_by : (h : ℕ) (k : K) (e : Entry K V A) (es : List (Entry K V A)) (r : Ordering) → place_cmp cmp h k e ≡ r → IsAscending cmp (e ∷ es) → IsNone (entry_at cmp h k (e ∷ es)) → (IsNone (entry_at cmp h k es) → Parts cmp h k es) → Parts cmp h k (e ∷ es)
  parts_by h k e es Less q up none rest = record { first = []; last = e ∷ es; is = refl; before = tt; past = (q, past_rest o h k e es up (ap is_gt q)) }
  parts_by h k e es Equal q up none rest = cc (found_here o h k [] e es up q)
  parts_by h k e es Greater q up none rest =
      let p = rest (rw (found_right o h k [] e es up q) at none) in
      record { first = e ∷ p.first; last = p.last; is = ap (λ t. e ∷ t) p.is; before = (q, p.before); past = p.past }

  parts : (h : ℕ) (k : K) (es : List (Entry K V A)) → IsAscending cmp es → IsNone (entry_at cmp h k es) → Parts cmp h k es
  parts h k [] up none = record { first = []; last = []; is = refl; before = tt; past = tt }
  parts h k (e ∷ es) up none = parts_by h k e es (place_cmp cmp h k e) refl up none (λ n. parts h k es (sorted_tail (entry_cmp cmp) e es up) n)

  -- a new entry in its place
  pub with_entry-ok : (x : Entry K V A) (es : List (Entry K V A)) → IsAscending cmp es → IsNone (entry_at cmp x.hash (arc_value x.key) es) → IsPut cmp x es (with_entry cmp x es)
  with_entry-ok x es up none =
      let p = parts x.hash (arc_value x.key) es up none in
      let q = put_at o x p.first p.last p.before p.past (rw p.is at up) in
      rw p.is (rw (← q.is) q)

  placed_by : (x : Entry K V A) (c : Colour) (l : Tree (Entry K V A)) (e : Entry K V A) (r : Tree (Entry K V A)) (s : Ordering) → entry_cmp cmp x e ≡ s → IsAscending cmp (inorder l ++ e ∷ inorder r) → IsNone (entry_at cmp x.hash (arc_value x.key) (inorder l ++ e ∷ inorder r))
      → (IsAscending cmp (inorder l) → IsNone (entry_at cmp x.hash (arc_value x.key) (inorder l)) → inorder (put_tree cmp x l) ≡ with_entry cmp x (inorder l))
      → (IsAscending cmp (inorder r) → IsNone (entry_at cmp x.hash (arc_value x.key) (inorder r)) → inorder (put_tree cmp x r) ≡ with_entry cmp x (inorder r))
      → inorder (cond (is_lt s) (balance_left c (put_tree cmp x l) e r) (balance_right c l e (put_tree cmp x r))) ≡ with_entry cmp x (inorder l ++ e ∷ inorder r)
  placed_by x c l e r Less q up none left right =
      let h = x.hash in
      let k = arc_value x.key in
      let back : AllPast cmp h k (e ∷ inorder r) = (q, past_right o h k (inorder l) e (inorder r) up (ap is_gt q)) in
      let ih = left (sorted_front (entry_cmp cmp) (inorder l) (e ∷ inorder r) up) (rw (found_left o h k (inorder l) e (inorder r) up q) at none) in
      let p = before-back cmp h k (inorder l) (e ∷ inorder r) back in
      let s = past-back cmp h k (inorder l) (e ∷ inorder r) back in
      inorder-balance_left c (put_tree cmp x l) e r ∙ ap (λ t. t ++ e ∷ inorder r) ih ∙ append_assoc (filter (is_before cmp h k) (inorder l)) (x ∷ filter (is_past cmp h k) (inorder l)) (e ∷ inorder r)
      ∙ sym (ap (λ t. t ++ x ∷ filter (is_past cmp h k) (inorder l ++ e ∷ inorder r)) p ∙ ap (λ t. filter (is_before cmp h k) (inorder l) ++ x ∷ t) s)
  placed_by x c l e r Equal q up none left right = cc (found_here o x.hash (arc_value x.key) (inorder l) e (inorder r) up q)
  placed_by x c l e r Greater q up none left right =
      let h = x.hash in
      let k = arc_value x.key in
      let front : AllBefore cmp h k (inorder l) = before_left o h k (inorder l) e (inorder r) up (ap is_lt q) in
      let ih = right (sorted_tail (entry_cmp cmp) e (inorder r) (sorted_back (entry_cmp cmp) (inorder l) (e ∷ inorder r) up)) (rw (found_right o h k (inorder l) e (inorder r) up q) at none) in
      let p = before-front cmp h k (inorder l) (e ∷ inorder r) front ∙ ap (λ t. inorder l ++ cond (is_gt t) (e ∷ filter (is_before cmp h k) (inorder r)) (filter (is_before cmp h k) (inorder r))) q in
      let s = past-front cmp h k (inorder l) (e ∷ inorder r) front ∙ ap (λ t. cond (is_lt t) (e ∷ filter (is_past cmp h k) (inorder r)) (filter (is_past cmp h k) (inorder r))) q in
      inorder-balance_right c l e (put_tree cmp x r) ∙ ap (λ t. inorder l ++ e ∷ t) ih ∙ sym (append_assoc (inorder l) (e ∷ filter (is_before cmp h k) (inorder r)) (x ∷ filter (is_past cmp h k) (inorder r)))
      ∙ sym (ap (λ t. t ++ x ∷ filter (is_past cmp h k) (inorder l ++ e ∷ inorder r)) p ∙ ap (λ t. (inorder l ++ e ∷ filter (is_before cmp h k) (inorder r)) ++ x ∷ t) s)

  pub inorder-put_tree : (x : Entry K V A) (t : Tree (Entry K V A)) → IsAscending cmp (inorder t) → IsNone (entry_at cmp x.hash (arc_value x.key) (inorder t)) → inorder (put_tree cmp x t) ≡ with_entry cmp x (inorder t)
  inorder-put_tree x leaf up none = refl
  inorder-put_tree x (fork c l e r) up none = placed_by x c l e r (entry_cmp cmp x e) refl up none (inorder-put_tree x l) (inorder-put_tree x r)
