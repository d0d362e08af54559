use denote.Param.Always.{always_mut}
use Rattle.flurry_shared_view.specs.Visits.{FoldsPair}
use Rattle.flurry_shared_view.proofs.VisitLaws.{HasVisited}
use Rattle.flurry_shared_view.proofs.map_ref.HashMapRef.fold_rest.Given as goal

abbrev pub invariant-loop : goal.invariant-loop
invariant-loop g l = always_mut g.F.FnMut l.combine × HasVisited g.K.Ord.cmp (FoldsPair (goal.F-step g)) (l.initial.combine, l.fn.init) (l.combine, l.folded) l.pairs
