use denote.Param.Always.{mut_next}
use Rattle.std.proofs.Common.{rules, Ok, ◌∙◌, ap}
use Rattle.flurry_shared_view.proofs.VisitLaws.{has_visited_none, has_visited_more, has_visited_all, visits_pair}
use Rattle.flurry_shared_view.proofs.map_ref.HashMapRef.visit_rest.Goals as goal

pub loop-init : goal.loop-init
loop-init g c = (search rules, has_visited_none g.K.Ord.cmp _ _ _ c.requires.begun)

pub returns-in_default : goal.returns-in_default
returns-in_default g c = has_visited_all g.K.Ord.cmp _ _ _ _ _ c.next-in-loop.result c.next-in-loop.ensures (c.in_ok-key.was ∙ ap Ok c.in_default.is) _ _ c.loop.invariant.1

pub loop-preserved : goal.loop-preserved
loop-preserved g c = (
  search (mut_next, c.loop.invariant.0, rules),
  has_visited_more g.K.Ord.cmp _ _ _ _ _ c.next-in-loop.result c.next-in-loop.ensures _ (c.in_ok-key.was ∙ ap Ok c.in-Some-2.is) _ _ _ c.loop.invariant.1
      (λ y same. visits_pair c.deref.ensures c.deref-in-loop.ensures y same (goal.F-step g) _ _ _ c.visit.ensures),
)
