use Rattle.std.proofs.Common.{◌≡◌, ◌+◌, ◌≤◌, ◌++◌, length, map}
use Rattle.std.specs.List.{AllZip}
use Rattle.std.specs.Vec.{vec_len, vec_capacity}
use Rattle.flurry_seq.specs.Iter.{value_of_item}
use Rattle.flurry_seq_pairs.proofs.set.clones.Given as goal

abbrev pub invariant-loop-element : goal.invariant-loop-element
invariant-loop-element g l = record {
  split : map value_of_item l.yielded ++ l.element-iterator ≡ l.fn.elements;
  cloned : AllZip g.T.Clone.is_clone (map value_of_item l.yielded) l.list.items;
  room : vec_len l.list + length l.element-iterator ≤ vec_capacity l.list;
}
