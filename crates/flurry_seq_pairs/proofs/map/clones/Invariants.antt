use Rattle.std.proofs.Common.{◌≡◌, ◌+◌, ◌≤◌, ◌++◌, length, map}
use Rattle.std.specs.List.{AllZip}
use Rattle.std.specs.Vec.{vec_len, vec_capacity}
use Rattle.flurry_seq_pairs.specs.Clones.{IsClonedPair}
use Rattle.flurry_seq.specs.Iter.{pair_of_item}
use Rattle.flurry_seq_pairs.proofs.map.clones.Given as goal

abbrev pub invariant-loop-key : goal.invariant-loop-key
invariant-loop-key g l = record {
  split : map pair_of_item l.yielded ++ l.key-iterator ≡ l.fn.pairs;
  cloned : AllZip (IsClonedPair g.K.Clone.is_clone g.V.Clone.is_clone) (map pair_of_item l.yielded) l.list.items;
  room : vec_len l.list + length l.key-iterator ≤ vec_capacity l.list;
}
