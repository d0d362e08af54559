use Rattle.std.proofs.Common.{◌≡◌, ◌+◌, ◌≤◌, ◌++◌, map, length}
use Rattle.std.specs.Arc.{arc_value}
use Rattle.std.specs.Vec.{vec_len, vec_capacity}
use Rattle.flurry_seq.proofs.owners.clone_keys.Given as goal

abbrev pub invariant-loop-key : goal.invariant-loop-key
invariant-loop-key g l = record {
  owned : map arc_value l.list.items ++ l.key-iterator ≡ l.fn.keys;
  room : vec_len l.list + length l.key-iterator ≤ vec_capacity l.list;
}
