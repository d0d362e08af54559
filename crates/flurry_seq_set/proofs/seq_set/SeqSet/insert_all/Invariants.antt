use Rattle.std.proofs.Common.{◌≡◌, ℕ, ◌+◌, ◌≤◌, ◌++◌, length}
use Rattle.std.specs.Vec.Iter.{into_iter_items}
use Rattle.flurry_base.specs.FiniteSet.{with_elements}
use Rattle.flurry_seq.specs.Growth.{IsTableFrom, HasRoom}
use Rattle.flurry_seq_set.proofs.seq_set.SeqSet.insert_all.Given as goal

abbrev pub invariant-loop-element : goal.invariant-loop-element
invariant-loop-element g l = record {
  elements : l.self.elements ≡ with_elements g.T.Ord.cmp l.initial.self.elements l.yielded;
  room : (n : ℕ) → HasRoom n (length l.initial.self.elements + length l.fn.list.items) → IsTableFrom n (length l.initial.self.elements) l.initial.self.bins → IsTableFrom n (length l.self.elements) l.self.bins;
  count : length l.self.elements ≤ length l.initial.self.elements + length l.yielded;
  hasher : l.self.hasher ≡ l.initial.self.hasher;
  split : l.yielded ++ into_iter_items l.element-iterator ≡ l.fn.list.items;
}
