-- Where no red node is over a red one, a tree is balanced as it stands.
use Rattle.std.proofs.Common.{◌≡◌, Bool, true, false, refl, cond, ap, ◌∙◌}
use Rattle.std.specs.Prelude.{◌&&◌, ◌||◌}
use Rattle.flurry_bins.specs.declared.bin.node.Colour.{Colour}
use Rattle.flurry_bins.specs.Tree.{Tree, leaf, fork}
use Rattle.flurry_bins.specs.Balance.{is_red, is_black, red_root, leans_left, leans_right, balanced_left, balanced_right}

neither : {X : Type 0} (p q s t : Bool) (x y z : X) → (p && (q && (s || t))) ≡ false → cond (p && q && s) x (cond (p && q && t) y z) ≡ z
neither false q s t x y z h = refl
neither true false s t x y z h = refl
neither true true true t x y z h = cc
neither true true false true x y z h = cc
neither true true false false x y z h = refl

module _ {E : Type 0} where
  pub settled_left : (t : Tree E) → leans_left t ≡ false → balanced_left t ≡ t
  settled_left leaf h = refl
  settled_left (fork c leaf e r) h = refl
  settled_left (fork c (fork d a x b) e r) h = neither (is_black c) (is_red d) (red_root a) (red_root b) _ _ _ h

  pub settled_right : (t : Tree E) → leans_right t ≡ false → balanced_right t ≡ t
  settled_right leaf h = refl
  settled_right (fork c l e leaf) h = refl
  settled_right (fork c l e (fork d b y a)) h = neither (is_black c) (is_red d) (red_root a) (red_root b) _ _ _ (ap (λ p. is_black c && (is_red d && p)) (either (red_root a) (red_root b)) ∙ h)
    where
      either : (p q : Bool) → (p || q) ≡ (q || p)
      either true true = refl
      either true false = refl
      either false true = refl
      either false false = refl

  pub not_leaf_left : (c : Colour) (e : E) (r t : Tree E) → t ≡ fork c leaf e r → leans_left t ≡ true → ⊥
  not_leaf_left c e r t is h = let no = rw is at h in by_colour (is_black c) no
    where
      by_colour : (b : Bool) → (b && false) ≡ true → ⊥
      by_colour true h = cc
      by_colour false h = cc

  pub not_leaf_right : (c : Colour) (l : Tree E) (e : E) (t : Tree E) → t ≡ fork c l e leaf → leans_right t ≡ true → ⊥
  not_leaf_right c l e t is h = let no = rw is at h in by_colour (is_black c) no
    where
      by_colour : (b : Bool) → (b && false) ≡ true → ⊥
      by_colour true h = cc
      by_colour false h = cc
