use Rattle.std.proofs.Common.{false, true, ◌&&◌, is_some, sym, ap, ◌∙◌, rules}
use Rattle.std.specs.List.{list_all}
use Rattle.flurry_base.specs.FiniteSet.{element_at}
use Rattle.flurry_seq.proofs.ListLaws.{list_all_permuted}
use Rattle.flurry_seq_set.proofs.SetLaws.{decides_subset, subset_of_none}
use Rattle.flurry_seq_set.proofs.seq_set.SeqSet.is_subset.Goals as goal

pub loop-element-init : goal.loop-element-init
loop-element-init g c =
    ap (list_all (λ y. is_some (element_at g.T.Ord.cmp c.args.other.now.elements y))) c.into_iter-element-iterator.ensures.into_iter_gives
    ∙ sym (list_all_permuted (λ y. is_some (element_at g.T.Ord.cmp c.args.other.now.elements y)) c.args.self.now.elements c.iter-element-items.result c.iter-element-items.ensures.elements)

pub returns-then-not-contains-clause-subset : goal.returns-then-not-contains-clause-subset
returns-then-not-contains-clause-subset g c =
    let missing = rw (c.if-not-contains.true, c.as_ref.ensures) at c.contains.ensures.found in
    let gone = ap (list_all (λ y. is_some (element_at g.T.Ord.cmp c.args.other.now.elements y))) c.in-Some.ensures.steps ∙ ap (λ t. t && list_all (λ y. is_some (element_at g.T.Ord.cmp c.args.other.now.elements y)) c.next.new.self) (sym missing) in
    decides_subset g.met.T.Ord.total c.args.self.now.elements c.args.other.now.elements false (sym gone ∙ c.loop-element.invariant)

pub returns-clause-subset : goal.returns-clause-subset
returns-clause-subset g c =
    let all = ap (list_all (λ y. is_some (element_at g.T.Ord.cmp c.args.other.now.elements y))) c.in-None.ensures.steps.0 in
    decides_subset g.met.T.Ord.total c.args.self.now.elements c.args.other.now.elements true (sym all ∙ c.loop-element.invariant)

pub returns-then-is_empty-clause-subset : goal.returns-then-is_empty-clause-subset
returns-then-is_empty-clause-subset g c =
    rw c.is_empty-then-is_empty.ensures.empty
    (subset_of_none g.met.T.Ord.total c.args.self.now.elements c.args.other.now.elements (sym c.is_empty.ensures.empty ∙ c.if-is_empty.true))

pub loop-element-preserved : goal.loop-element-preserved
loop-element-preserved g c = search rules
