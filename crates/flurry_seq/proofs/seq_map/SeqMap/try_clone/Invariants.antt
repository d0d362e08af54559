use Rattle.std.proofs.Common.{◌≡◌, ◌+◌, ◌≤◌, length}
use Rattle.flurry_seq.specs.Growth.{bins_for, IsTableFrom}
use Rattle.flurry_seq.proofs.CloneLaws.{IsRest}
use Rattle.flurry_seq.proofs.seq_map.SeqMap.try_clone.Given as goal

abbrev pub invariant-loop-entry : goal.invariant-loop-entry
invariant-loop-entry g l = record {
  rest : IsRest g.K.Ord.cmp (g.S.KeyHasher.hash_of l.copy.hasher) l.self.pairs l.copy.pairs l.entry-iterator;
  room : IsTableFrom (bins_for (length l.self.pairs)) (length l.copy.pairs) l.copy.bins;
  count : length l.copy.pairs + length l.entry-iterator ≤ length l.self.pairs;
  hasher : l.copy.hasher ≡ l.self.hasher;
}
