use Rattle.std.proofs.Common.{◌≡◌, ℕ, ◌+◌, ◌≤◌, ◌++◌, length}
use Rattle.std.specs.Vec.Iter.{into_iter_items}
use Rattle.flurry_base.specs.FiniteMap.{with_all}
use Rattle.flurry_seq.specs.Growth.{IsTableFrom, HasRoom}
use Rattle.flurry_seq.specs.Numbers.{BinsBearZero}
use Rattle.flurry_seq_par.specs.Joins.{pairs_of_bins}
use Rattle.flurry_seq_par.proofs.map.join_bins.Given as goal

abbrev pub invariant-loop-bin : goal.invariant-loop-bin
invariant-loop-bin g l = record {
  pairs : l.left.pairs ≡ with_all g.K.Ord.cmp l.initial.left.pairs (pairs_of_bins l.yielded);
  few : length l.left.pairs ≤ length l.initial.left.pairs + length (pairs_of_bins l.yielded);
  room : (n : ℕ) → HasRoom n (length l.initial.left.pairs + length (pairs_of_bins l.fn.bins.items)) → IsTableFrom n (length l.initial.left.pairs) l.initial.left.bins → IsTableFrom n (length l.left.pairs) l.left.bins;
  numbers : BinsBearZero (into_iter_items l.bin-iterator);
  hasher : l.left.hasher ≡ l.initial.left.hasher;
  split : l.yielded ++ into_iter_items l.bin-iterator ≡ l.fn.bins.items;
}
