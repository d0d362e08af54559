use Rattle.std.proofs.Common.{not, refl, sym, ap, ◌∙◌}
use Rattle.flurry_bins.specs.declared.bin.node.Node.{out-Node}
use Rattle.flurry_bins.specs.Balance.{balanced_left, balanced_right}
use Rattle.flurry_bins.specs.Chain.{entry_of, colour_of}
use Rattle.flurry_bins.specs.Tree.{shape}
use Rattle.flurry_bins.proofs.Insertions.{old_of-some, put_left, put_right, written_left, written_right}
use Rattle.flurry_bins.proofs.Trees.{shape_at, node_shape-roll}
use Rattle.flurry_bins.proofs.bin.tree.+insert_in.Goals as goal
use Rattle.flurry_bins.proofs.bin.tree.+insert_in.Goals.{then-is_none, else-is_none, then-is_none-2, else-is_none-2}

pub returns-in_default-clause-ok : goal.returns-in_default-clause-ok
returns-in_default-clause-ok g t c =
    let empty = ap shape c.in_default.is in
    rw empty (refl, entry_of c.in_ok-node.node.value, c.in_ok-node.ensures.ok, c.link_children.ensures)

pub returns-after-is_none-clause-ok : goal.returns-after-is_none-clause-ok
returns-after-is_none-clause-ok g t c =
    let n = c.deref_mut.result.now in
    let sides = out-Node _ _ _ n in
    let new = c.insert_in.new.root in
    let here = shape_at c.in-Some.is c.deref_mut.ensures.value in
    let turn = sym (rw (c.deref.ensures, ← c.deref_mut.ensures.value) at c.compare_place.ensures) ∙ c.in-Less.is in
    let below = c.in_ok-replaced-in-Less.ensures.ok in
    elim c.if-is_none.branch [
      | then-is_none w ↦
          let rest = w.settle_left.ensures ∙ ap balanced_left (node_shape-roll sides.right (entry_of n) new (colour_of n)) in
          rw (here, w.root-is, rest) (put_left g.K.Ord.cmp c.args.hash c.args.key c.args.value c.args.number (colour_of n) (shape sides.left) (entry_of n) (shape sides.right) _ (shape new) turn (old_of-some _ (c.is_none.ensures ∙ ap not w.if-is_none.true)) below)
      | else-is_none w ↦ rw (here, w.root-is, node_shape-roll sides.right (entry_of n) new (colour_of n)) (written_left g.K.Ord.cmp c.args.hash c.args.key c.args.value c.args.number (colour_of n) (shape sides.left) (entry_of n) (shape sides.right) _ (shape new) turn (old_of-some _ (c.is_none.ensures ∙ ap not w.if-is_none.false)) below)
    ]

pub returns-after-is_none-2-clause-ok : goal.returns-after-is_none-2-clause-ok
returns-after-is_none-2-clause-ok g t c =
    let n = c.deref_mut-in-Greater.result.now in
    let sides = out-Node _ _ _ n in
    let new = c.insert_in-in-Greater.new.root in
    let here = shape_at c.in-Some.is c.deref_mut-in-Greater.ensures.value in
    let turn = sym (rw (c.deref.ensures, ← c.deref_mut-in-Greater.ensures.value) at c.compare_place.ensures) ∙ c.in-Greater.is in
    let below = c.in_ok-replaced-in-Greater.ensures.ok in
    elim c.if-is_none-2.branch [
      | then-is_none-2 w ↦
          let rest = w.settle_right.ensures ∙ ap balanced_right (node_shape-roll new (entry_of n) sides.left (colour_of n)) in
          rw (here, w.root-is, rest) (put_right g.K.Ord.cmp c.args.hash c.args.key c.args.value c.args.number (colour_of n) (shape sides.left) (entry_of n) (shape sides.right) _ (shape new) turn (old_of-some _ (c.is_none-in-Greater.ensures ∙ ap not w.if-is_none-2.true)) below)
      | else-is_none-2 w ↦ rw (here, w.root-is, node_shape-roll new (entry_of n) sides.left (colour_of n)) (written_right g.K.Ord.cmp c.args.hash c.args.key c.args.value c.args.number (colour_of n) (shape sides.left) (entry_of n) (shape sides.right) _ (shape new) turn (old_of-some _ (c.is_none-in-Greater.ensures ∙ ap not w.if-is_none-2.false)) below)
    ]
