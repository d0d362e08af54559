use denote.Param.Always.{always_mut}
use Rattle.flurry_shared_view.specs.Visits.{RemovesSeen}
use Rattle.flurry_shared_view.proofs.VisitLaws.{HasVisited}
use Rattle.flurry_shared_set.specs.ElementAnswers.{KeepsOrRemovesElement}
use Rattle.flurry_shared_set.proofs.set_ref.HashSetRef.retain_rest.Given as goal

abbrev pub invariant-loop : goal.invariant-loop
invariant-loop g l = always_mut g.F.FnMut l.keep × HasVisited g.T.Ord.cmp (KeepsOrRemovesElement (goal.F-step g) (RemovesSeen g.T.Ord.cmp g.S.KeyHasher.hash_of l.fn.self)) l.initial.keep l.keep l.pairs
