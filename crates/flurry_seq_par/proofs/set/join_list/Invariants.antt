use Rattle.std.proofs.Common.{◌≡◌, ◌++◌, List, length}
use Rattle.flurry_bins.specs.Bin.{entries_of_list}
use Rattle.flurry_base.specs.FiniteSet.{with_elements}
use Rattle.flurry_seq.specs.Numbers.{BearZero}
use Rattle.flurry_seq_par.specs.Joins.{elements_of_list}
use Rattle.flurry_seq_par.proofs.set.join_list.Given as goal

abbrev pub invariant-loop-node : goal.invariant-loop-node
invariant-loop-node g l = record {
  put : (done : List g.row.T.Denot) × (done ++ elements_of_list l.rest ≡ elements_of_list l.fn.list) × (l.set.elements ≡ with_elements g.T.Ord.cmp l.initial.set.elements done);
  numbers : BearZero (entries_of_list l.rest);
  hasher : l.set.hasher ≡ l.initial.set.hasher;
}

abbrev pub decreases-loop-node : goal.decreases-loop-node
decreases-loop-node g l = length (entries_of_list l.rest)
