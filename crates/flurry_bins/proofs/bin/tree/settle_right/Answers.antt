use Rattle.std.proofs.Common.{sym, ap, ◌∙◌}
use Rattle.flurry_bins.specs.Chain.{colour_of, entry_of}
use Rattle.flurry_bins.specs.Tree.{shape, fork}
use Rattle.flurry_bins.specs.Balance.{balanced_right}
use Rattle.flurry_bins.proofs.Settled.{settled_right, not_leaf_right}
use Rattle.flurry_bins.proofs.bin.tree.settle_right.Goals as goal

pub returns-then-not-leans_right : goal.returns-then-not-leans_right
returns-then-not-leans_right g c = sym (settled_right (shape c.args.root.now) (sym c.leans_right.ensures ∙ c.if-not-leans_right.true))

pub unreachable-requires : goal.unreachable-requires
unreachable-requires g c =
    let n = c.in-Some.node.value in
    let is = sym (ap shape c.take.ensures.value) ∙ ap shape c.in-Some.is ∙ c.take_children-left.ensures.sides ∙ ap (λ s. fork (colour_of n) (shape c.take_children-left.result.0) (entry_of n) (shape s)) c.in_default-right.is in
    not_leaf_right _ _ _ (shape c.args.root.now) is (sym c.leans_right.ensures ∙ c.if-not-leans_right.false)

pub returns : goal.returns
returns g c =
    let n = c.in-Some.node.value in
    let is = sym (ap shape c.take.ensures.value) ∙ ap shape c.in-Some.is ∙ c.take_children-left.ensures.sides ∙ ap (λ s. fork (colour_of n) (shape c.take_children-left.result.0) (entry_of n) (shape s)) c.in-Some-right.is in
    rw (c.take_children-left.ensures.entry, c.take_children-left.ensures.colour) at c.balance_right.ensures ∙ sym (ap balanced_right is)
