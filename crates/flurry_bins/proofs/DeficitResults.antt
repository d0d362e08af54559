-- Taking the first entry out, one level up.
use Rattle.std.proofs.Common.{◌≡◌, ◌<◌, Bool, Option, Some, None, Box, IsSome, arith, ap, ◌∙◌}
use Rattle.flurry_bins.specs.declared.bin.node.Colour.{Colour}
use Rattle.flurry_bins.specs.declared.bin.node.Node.{Node}
use Rattle.flurry_bins.specs.Tree.{Tree, leaf, fork, shape, tree_size}
use Rattle.flurry_bins.specs.Removal.{Out, IsOutOf, settled_left, settled_right, mended_left, mended_right, join_of}
use Rattle.flurry_bins.proofs.Trees.{node_shape-out}

-- a link that leads to a node leads to a tree that has one
pub has_node : {K V A : Type 0} (l : Option (Box (Node K V A) A)) → IsSome l → 0 < tree_size (shape l)
has_node None h = cc
has_node (Some b) h = rw (node_shape-out b.value) (omega arith)

module _ {E : Type 0} where
  step_out : Colour → E → Tree E → Out E → Out E
  step_out c e r p = record { rest = (settled_left p.short c p.rest e r).0; least = p.least; short = (settled_left p.short c p.rest e r).1 }

  pub out_more : (c : Colour) (l : Tree E) (e : E) (r t : Tree E) (p : Out E) (q : Tree E × Bool) → 0 < tree_size l → IsOutOf l p → t ≡ fork c p.rest e r → q ≡ mended_left p.short t → IsOutOf (fork c l e r) (record { rest = q.0; least = p.least; short = q.1 })
  unfolding step_out
  out_more c leaf e r t p q some ip it iq = absurd (omega arith)
  out_more c (fork d a x b) e r t p q some ip it iq =
      let settled : q ≡ settled_left p.short c p.rest e r = iq ∙ ap (mended_left p.short) it in
      let one : (record { rest = q.0; least = p.least; short = q.1 }) ≡ step_out c e r p = ap (λ (s : Tree E × Bool). record { rest = s.0; least = p.least; short = s.1 }) settled in
      one ∙ ap (step_out c e r) ip

  pub joined_more : (c : Colour) (l r t : Tree E) (p : Out E) (q : Tree E × Bool) → 0 < tree_size r → IsOutOf r p → t ≡ fork c l p.least p.rest → q ≡ mended_right p.short t → q ≡ join_of c l r
  joined_more c l leaf t p q some ip it iq = absurd (omega arith)
  joined_more c l (fork d a x b) t p q some ip it iq =
      let settled : q ≡ settled_right p.short c l p.least p.rest = iq ∙ ap (mended_right p.short) it in
      settled ∙ ap (λ (s : Out E). settled_right s.short c l s.least s.rest) ip
