use Rattle.std.proofs.Common.{Ok, ◌∙◌, ap}
use Rattle.flurry_shared_view.proofs.VisitLaws.{has_visited_none, has_visited_more, has_visited_all, looks_up_equal}
use Rattle.flurry_shared_view.proofs.map_ref.HashMapRef.has_rest.Goals as goal

pub loop-init : goal.loop-init
loop-init g c = has_visited_none g.K.Ord.cmp _ _ _ c.requires

pub returns-in_default : goal.returns-in_default
returns-in_default g c = λ _. has_visited_all g.K.Ord.cmp _ _ _ _ _ c.next-in-loop.result c.next-in-loop.ensures (c.in_ok-key.was ∙ ap Ok c.in_default.is) _ _ c.loop.invariant

pub loop-preserved : goal.loop-preserved
loop-preserved g c =
    has_visited_more g.K.Ord.cmp _ _ _ _ _ c.next-in-loop.result c.next-in-loop.ensures _ (c.in_ok-key.was ∙ ap Ok c.in-Some-2.is) _ _ _ c.loop.invariant
    (λ y same. looks_up_equal g.K.Ord.cmp g.S.KeyHasher.hash_of c.args.self.now g.V.PartialEq.eq _ _ _ c.deref.ensures c.deref-in-loop.ensures y same _ c.if-not-branch.false c.in_ok-has.ensures)
