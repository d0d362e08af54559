use Rattle.std.proofs.Common.{◌≡◌, ◌+◌, ◌≤◌, ◌++◌, map, length}
use Rattle.std.specs.Arc.{arc_value}
use Rattle.std.specs.Vec.{vec_len, vec_capacity}
use Rattle.flurry_seq.proofs.owners.clone_values.Given as goal

abbrev pub invariant-loop-value : goal.invariant-loop-value
invariant-loop-value g l = record {
  owned : map arc_value l.list.items ++ l.value-iterator ≡ l.fn.values;
  room : vec_len l.list + length l.value-iterator ≤ vec_capacity l.list;
}
