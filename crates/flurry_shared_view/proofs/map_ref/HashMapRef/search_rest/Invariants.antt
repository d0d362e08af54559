use denote.Param.Always.{always_mut}
use Rattle.std.proofs.Common.{false}
use Rattle.flurry_shared_view.specs.Visits.{SaysOfPair}
use Rattle.flurry_shared_view.proofs.VisitLaws.{HasVisited}
use Rattle.flurry_shared_view.proofs.map_ref.HashMapRef.search_rest.Given as goal

abbrev pub invariant-loop : goal.invariant-loop
invariant-loop g l = always_mut g.F.FnMut l.test × HasVisited g.K.Ord.cmp (SaysOfPair (goal.F-step g) false) l.initial.test l.test l.pairs
