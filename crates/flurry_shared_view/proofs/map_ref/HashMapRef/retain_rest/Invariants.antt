use denote.Param.Always.{always_mut}
use Rattle.flurry_shared_view.specs.Visits.{KeepsOrRemoves, RemovesSeen}
use Rattle.flurry_shared_view.proofs.VisitLaws.{HasVisited}
use Rattle.flurry_shared_view.proofs.map_ref.HashMapRef.retain_rest.Given as goal

abbrev pub invariant-loop : goal.invariant-loop
invariant-loop g l = always_mut g.F.FnMut l.keep × HasVisited g.K.Ord.cmp (KeepsOrRemoves (goal.F-step g) (RemovesSeen g.K.Ord.cmp g.S.KeyHasher.hash_of l.fn.self)) l.initial.keep l.keep l.pairs
