use Rattle.std.proofs.Common.{◌≡◌, ℕ, ◌+◌, ◌≤◌, ◌++◌, List, length}
use Rattle.flurry_bins.specs.Bin.{entries_of_list}
use Rattle.flurry_base.specs.FiniteMap.{with_all}
use Rattle.flurry_seq.specs.Growth.{IsTableFrom, HasRoom}
use Rattle.flurry_seq.specs.Numbers.{BearZero}
use Rattle.flurry_seq_par.specs.Joins.{pairs_in}
use Rattle.flurry_seq_par.proofs.map.join_list.Given as goal

abbrev pub invariant-loop-node : goal.invariant-loop-node
invariant-loop-node g l = record {
  put : (done : List (g.row.K.Denot × g.row.V.Denot)) × (done ++ pairs_in (entries_of_list l.rest) ≡ pairs_in (entries_of_list l.fn.list)) × (l.left.pairs ≡ with_all g.K.Ord.cmp l.initial.left.pairs done) × (length l.left.pairs ≤ length l.initial.left.pairs + length done);
  room : (n : ℕ) → HasRoom n (length l.initial.left.pairs + length (pairs_in (entries_of_list l.fn.list))) → IsTableFrom n (length l.initial.left.pairs) l.initial.left.bins → IsTableFrom n (length l.left.pairs) l.left.bins;
  numbers : BearZero (entries_of_list l.rest);
  hasher : l.left.hasher ≡ l.initial.left.hasher;
}

abbrev pub decreases-loop-node : goal.decreases-loop-node
decreases-loop-node g l = length (entries_of_list l.rest)
