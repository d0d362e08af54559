use denote.Param.Always.{always_mut}
use Rattle.flurry_shared_view.specs.Visits.{VisitsPair}
use Rattle.flurry_shared_view.proofs.VisitLaws.{HasVisited}
use Rattle.flurry_shared_view.proofs.map_ref.HashMapRef.visit_rest.Given as goal

abbrev pub invariant-loop : goal.invariant-loop
invariant-loop g l = always_mut g.F.FnMut l.visit × HasVisited g.K.Ord.cmp (VisitsPair (goal.F-step g)) l.initial.visit l.visit l.pairs
