use Rattle.std.proofs.Common.{◌-◌, ◌^◌}
use Rattle.std.specs.Vec.{vec_len}
use Rattle.flurry_shared_view.specs.Walks.{IsOpen}
use Rattle.flurry_shared_pairs.proofs.set_ref.clones_of_rest.Given as goal

abbrev pub invariant-loop-list : goal.invariant-loop-list
invariant-loop-list g l = IsOpen g.T.Ord.cmp l.elements

abbrev pub decreases-loop-list : goal.decreases-loop-list
decreases-loop-list g l = 2 ^ 64 - vec_len l.list
