-- Entries whose first and last have one hash all have it, and go to one side of a split.
use Rattle.std.proofs.Common.{◌≡◌, ℕ, ◌≤◌, true, false, arith, List, [], ◌∷◌, ◌++◌, Option, Some, None, refl, ap, ◌∙◌}
use Rattle.std.specs.Prelude.{◌==◌}
use Rattle.std.specs.Int.{bit_at}
use Rattle.std.specs.Option.{option_or}
use Rattle.std.specs.declared.cmp.Ordering.{Ordering}
use Rattle.std.specs.declared.cmp.Ordering.TheVariants.{Less, Equal, Greater}
use Rattle.std.specs.Ordering.{nat_cmp, ordering_then}
use Rattle.std.proofs.lemmas.Bool.Decides.{nat_tests}
use Rattle.std.proofs.lemmas.Cmp.{ranked}
use Rattle.flurry_bins.specs.declared.bin.entry.Entry.{Entry}
use Rattle.flurry_bins.specs.declared.bin.node.Colour.{Colour}
use Rattle.flurry_bins.specs.Tree.{Tree, fork, inorder}
use Rattle.flurry_bins.specs.Entries.{entry_cmp, IsAscending, AllHashed, last_of, with_bit, first_past}
use Rattle.flurry_base.proofs.ListParts.{all_map, filter_kept, filter_lost, sorted_head, sorted_tail}

pub or_again : {X : Type 0} (o : Option X) (x : X) (p : Option X) → option_or (option_or o (Some x)) p ≡ option_or o (Some x)
or_again None x p = refl
or_again (Some y) x p = refl

last_behind : {X : Type 0} (xs : List X) (e : X) (ys : List X) → last_of (xs ++ e ∷ ys) ≡ option_or (last_of ys) (Some e)
last_behind [] e ys = refl
last_behind (x ∷ xs) e ys = ap (λ o. option_or o (Some x)) (last_behind xs e ys) ∙ or_again (last_of ys) e (Some x)

-- a walk to the right of e, from entries of which p was the last
last_right : {X : Type 0} (xs : List X) (e : X) (ys : List X) (p : Option X) → option_or (last_of (xs ++ e ∷ ys)) p ≡ option_or (last_of ys) (Some e)
last_right xs e ys p = ap (λ o. option_or o p) (last_behind xs e ys) ∙ or_again (last_of ys) e p

-- the same in a tree
pub last_of_fork : {E : Type 0} {t : Tree E} {c : Colour} {l : Tree E} {e : E} {r : Tree E} → t ≡ fork c l e r → (p : Option E) → option_or (last_of (inorder t)) p ≡ option_or (last_of (inorder r)) (Some e)
last_of_fork {t = t} {l = l} {e = e} {r = r} is p = ap (λ u. option_or (last_of (inorder u)) p) is ∙ last_right (inorder l) e (inorder r) p

no_greater : (r s : Ordering) (x y : ℕ) → nat_cmp x y ≡ r → ordering_then r s ≡ Less → x ≤ y
no_greater Less s x y e l = let below = rw e at (ranked x y (nat_cmp x y) refl) in omega arith
no_greater Equal s x y e l = let same = rw e at (ranked x y (nat_cmp x y) refl) in omega arith
no_greater Greater s x y e l = cc

module _ {K V A : Type 0} (cmp : K → K → Ordering) where
  hash_up : (d e : Entry K V A) (es : List (Entry K V A)) → IsAscending cmp (d ∷ e ∷ es) → d.hash ≤ e.hash
  hash_up d e es up = no_greater (nat_cmp d.hash e.hash) _ d.hash e.hash refl (sorted_head (entry_cmp cmp) d (e ∷ es) up).0

  below_last : (d : Entry K V A) (es : List (Entry K V A)) (b : Entry K V A) → IsAscending cmp (d ∷ es) → last_of (d ∷ es) ≡ Some b → d.hash ≤ b.hash
  below_last d [] b up is = let same : d ≡ b = cc in omega (arith, ap (λ e. e.hash) same)
  below_last d (e ∷ es) b up is =
      let next = hash_up d e es up in
      let rest = below_last e es b (sorted_tail (entry_cmp cmp) d (e ∷ es) up) (rw (or_again (last_of es) e (Some d)) at is) in
      omega (arith, next, rest)

  all_as_last : (d : Entry K V A) (es : List (Entry K V A)) (b : Entry K V A) → IsAscending cmp (d ∷ es) → last_of (d ∷ es) ≡ Some b → d.hash ≡ b.hash → AllHashed b.hash (d ∷ es)
  all_as_last d [] b up is same = (same, tt)
  all_as_last d (e ∷ es) b up is same =
      let next = hash_up d e es up in
      let up' = sorted_tail (entry_cmp cmp) d (e ∷ es) up in
      let is' = rw (or_again (last_of es) e (Some d)) at is in
      let rest = below_last e es b up' is' in
      (same, all_as_last e es b up' is' (omega (arith, next, rest, same)))

  pub all_one_hash : (es : List (Entry K V A)) (a b : Entry K V A) → IsAscending cmp es → Some a ≡ first_past cmp None es → Some b ≡ last_of es → a.hash ≡ b.hash → AllHashed b.hash es
  all_one_hash [] a b up first last same = tt
  all_one_hash (d ∷ es) a b up first last same =
      let one : a ≡ d = cc in
      let is : last_of (d ∷ es) ≡ Some b = cc in
      all_as_last d es b up is (rw one at same)

is_true : {n m : ℕ} → n ≡ m → (n == m) ≡ true
is_true e = grind (arith, nat_tests)

module _ {K V A : Type 0} (h place bit : ℕ) (es : List (Entry K V A)) (all : AllHashed h es) where
  pub with_bit-all : bit_at h place ≡ bit → with_bit place bit es ≡ es
  with_bit-all q = filter_kept _ es (all_map _ _ (λ e p. ap (λ n. bit_at n place == bit) p ∙ is_true q) es all)

  pub with_bit-none : (other : ℕ) → bit_at h place ≡ other → (other == bit) ≡ false → with_bit place bit es ≡ []
  with_bit-none other q differs = filter_lost _ es (all_map _ _ (λ e p. ap (λ n. bit_at n place == bit) p ∙ ap (λ b. b == bit) q ∙ differs) es all)
