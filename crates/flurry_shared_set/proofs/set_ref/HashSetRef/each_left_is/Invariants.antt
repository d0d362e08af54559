use Rattle.flurry_shared_view.specs.Walks.{IsOpen}
use Rattle.flurry_shared_set.proofs.set_ref.HashSetRef.each_left_is.Given as goal

abbrev pub invariant-loop : goal.invariant-loop
invariant-loop g l = IsOpen g.T.Ord.cmp l.pairs
