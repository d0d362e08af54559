use Rattle.std.proofs.Common.{◌≡◌, ℕ, ◌+◌, ◌≤◌, ◌++◌, length}
use Rattle.std.specs.Vec.Iter.{into_iter_items}
use Rattle.flurry_base.specs.FiniteMap.{with_all}
use Rattle.flurry_seq.specs.Growth.{IsTableFrom, HasRoom}
use Rattle.flurry_seq.proofs.seq_map.SeqMap.insert_all.Given as goal

abbrev pub invariant-loop-key : goal.invariant-loop-key
invariant-loop-key g l = record {
  pairs : l.self.pairs ≡ with_all g.K.Ord.cmp l.initial.self.pairs l.yielded;
  room : (n : ℕ) → HasRoom n (length l.initial.self.pairs + length l.fn.list.items) → IsTableFrom n (length l.initial.self.pairs) l.initial.self.bins → IsTableFrom n (length l.self.pairs) l.self.bins;
  count : length l.self.pairs ≤ length l.initial.self.pairs + length l.yielded;
  hasher : l.self.hasher ≡ l.initial.self.hasher;
  split : l.yielded ++ into_iter_items l.key-iterator ≡ l.fn.list.items;
}
