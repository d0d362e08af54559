use Rattle.std.proofs.Common.{◌≡◌, ◌++◌}
use Rattle.std.specs.Vec.Iter.{into_iter_items}
use Rattle.flurry_base.specs.FiniteSet.{with_elements}
use Rattle.flurry_seq.specs.Numbers.{BinsBearZero}
use Rattle.flurry_seq_par.specs.Joins.{elements_of_bins}
use Rattle.flurry_seq_par.proofs.set.join_bins.Given as goal

abbrev pub invariant-loop-bin : goal.invariant-loop-bin
invariant-loop-bin g l = record {
  elements : l.set.elements ≡ with_elements g.T.Ord.cmp l.initial.set.elements (elements_of_bins l.yielded);
  numbers : BinsBearZero (into_iter_items l.bin-iterator);
  hasher : l.set.hasher ≡ l.initial.set.hasher;
  split : l.yielded ++ into_iter_items l.bin-iterator ≡ l.fn.bins.items;
}
