use Rattle.std.proofs.Common.{sym, ap, ◌∙◌}
use Rattle.flurry_bins.specs.Chain.{colour_of, entry_of}
use Rattle.flurry_bins.specs.Tree.{shape, fork}
use Rattle.flurry_bins.specs.Balance.{balanced_left}
use Rattle.flurry_bins.proofs.Settled.{settled_left, not_leaf_left}
use Rattle.flurry_bins.proofs.bin.tree.settle_left.Goals as goal

pub returns-then-not-leans_left : goal.returns-then-not-leans_left
returns-then-not-leans_left g c = sym (settled_left (shape c.args.root.now) (sym c.leans_left.ensures ∙ c.if-not-leans_left.true))

pub unreachable-requires : goal.unreachable-requires
unreachable-requires g c =
    let n = c.in-Some.node.value in
    let is = sym (ap shape c.take.ensures.value) ∙ ap shape c.in-Some.is ∙ c.take_children-left.ensures.sides ∙ ap (λ s. fork (colour_of n) (shape s) (entry_of n) (shape c.take_children-left.result.2)) c.in_default-left.is in
    not_leaf_left _ _ _ (shape c.args.root.now) is (sym c.leans_left.ensures ∙ c.if-not-leans_left.false)

pub returns : goal.returns
returns g c =
    let n = c.in-Some.node.value in
    let is = sym (ap shape c.take.ensures.value) ∙ ap shape c.in-Some.is ∙ c.take_children-left.ensures.sides ∙ ap (λ s. fork (colour_of n) (shape s) (entry_of n) (shape c.take_children-left.result.2)) c.in-Some-left.is in
    rw (c.take_children-left.ensures.entry, c.take_children-left.ensures.colour) at c.balance_left.ensures ∙ sym (ap balanced_left is)
