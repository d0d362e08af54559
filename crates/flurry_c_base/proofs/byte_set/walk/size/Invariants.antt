use Rattle.std.proofs.Common.{◌≡◌, ◌+◌, ◌-◌, ◌^◌, ◌≤◌, length, map, min, sum_by}
use Rattle.flurry_c_base.specs.ByteStrings.{bytes_of}
use Rattle.flurry_c_base.proofs.byte_set.walk.size.Given as goal

abbrev pub invariant-loop-element : goal.invariant-loop-element
invariant-loop-element l = record {
  sum : min (l.size + sum_by length (map bytes_of l.element-iterator)) (2 ^ 64 - 1) ≡ min (sum_by length (map bytes_of l.fn.elements)) (2 ^ 64 - 1);
  most : l.size ≤ 2 ^ 64 - 1;
}
