use Rattle.std.proofs.Common.{◌≡◌, ◌+◌, ◌≤◌, ◌++◌, map, length}
use Rattle.flurry_seq.specs.Calls.{plain_pair}
use Rattle.std.specs.Vec.{vec_len, vec_capacity}
use Rattle.flurry_seq.proofs.owners.clone_pairs.Given as goal

abbrev pub invariant-loop-key : goal.invariant-loop-key
invariant-loop-key g l = record {
  owned : map plain_pair l.list.items ++ l.key-iterator ≡ l.fn.pairs;
  room : vec_len l.list + length l.key-iterator ≤ vec_capacity l.list;
}
