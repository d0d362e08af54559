use Rattle.std.proofs.Common.{not, false, true, ◌&&◌, is_some, sym, ap, ◌∙◌, rules}
use Rattle.std.specs.List.{list_all}
use Rattle.flurry_base.specs.FiniteSet.{element_at}
use Rattle.flurry_seq.proofs.ListLaws.{list_all_permuted}
use Rattle.flurry_seq_set.proofs.SetLaws.{decides_disjoint}
use Rattle.flurry_seq_set.proofs.seq_set.SeqSet.is_disjoint.Goals as goal

pub loop-element-init : goal.loop-element-init
loop-element-init g c =
    ap (list_all (λ y. not (is_some (element_at g.T.Ord.cmp c.args.other.now.elements y)))) c.into_iter-element-iterator.ensures.into_iter_gives
    ∙ sym (list_all_permuted (λ y. not (is_some (element_at g.T.Ord.cmp c.args.other.now.elements y))) c.args.self.now.elements c.iter-element-items.result c.iter-element-items.ensures.elements)

pub returns-then-contains-clause-disjoint : goal.returns-then-contains-clause-disjoint
returns-then-contains-clause-disjoint g c =
    let missing = rw (c.if-contains.true, c.as_ref.ensures) at c.contains.ensures.found in
    let gone = ap (list_all (λ y. not (is_some (element_at g.T.Ord.cmp c.args.other.now.elements y)))) c.in-Some.ensures.steps ∙ ap (λ t. t && list_all (λ y. not (is_some (element_at g.T.Ord.cmp c.args.other.now.elements y))) c.next.new.self) (ap not (sym missing)) in
    decides_disjoint g.met.T.Ord.total c.args.self.now.elements c.args.other.now.elements false (sym gone ∙ c.loop-element.invariant)

pub returns-clause-disjoint : goal.returns-clause-disjoint
returns-clause-disjoint g c =
    let all = ap (list_all (λ y. not (is_some (element_at g.T.Ord.cmp c.args.other.now.elements y)))) c.in-None.ensures.steps.0 in
    decides_disjoint g.met.T.Ord.total c.args.self.now.elements c.args.other.now.elements true (sym all ∙ c.loop-element.invariant)

pub loop-element-preserved : goal.loop-element-preserved
loop-element-preserved g c = search rules
