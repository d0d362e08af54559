-- Laws of the greatest of some numbers.
use Rattle.std.proofs.Common.{◌≡◌, ℕ, max, List, [], ◌∷◌, ◌++◌, map, sym, ap, ◌∙◌, arith}
use Rattle.std.proofs.lemmas.List.{map-append}
use Rattle.flurry_bins.specs.declared.bin.node.Colour.{Colour}
use Rattle.flurry_base.specs.Greatest.{greatest}
use Rattle.flurry_bins.specs.Tree.{Tree, fork, inorder}

max_assoc : (a b c : ℕ) → max (max a b) c ≡ max a (max b c)
max_assoc a b c = omega arith

pub greatest-append : (xs ys : List ℕ) → greatest (xs ++ ys) ≡ max (greatest xs) (greatest ys)
greatest-append [] ys = omega arith
greatest-append (x ∷ xs) ys = ap (max x) (greatest-append xs ys) ∙ sym (max_assoc x (greatest xs) (greatest ys))

-- what is found along a tree from left to right
pub greatest-inorder : {E : Type 0} (f : E → ℕ) (t l r : Tree E) (c : Colour) (e : E) → t ≡ fork c l e r → max (greatest (map f (inorder l))) (max (f e) (greatest (map f (inorder r)))) ≡ greatest (map f (inorder t))
greatest-inorder f t l r c e is = sym (ap (λ u. greatest (map f (inorder u))) is ∙ ap greatest (map-append f (inorder l) (e ∷ inorder r)) ∙ greatest-append (map f (inorder l)) (map f (e ∷ inorder r)))
