use Rattle.std.proofs.Common.{◌≡◌, ◌+◌, ◌-◌, ◌^◌, ◌≤◌, map, min, sum_by}
use Rattle.flurry_c_base.specs.ByteMaps.{bytes_of_pair}
use Rattle.flurry_c_base.specs.ByteWalks.{size_of}
use Rattle.flurry_c_base.proofs.byte_map.walk.size.Given as goal

abbrev pub invariant-loop-key : goal.invariant-loop-key
invariant-loop-key l = record {
  sum : min (l.size + sum_by size_of (map bytes_of_pair l.key-iterator)) (2 ^ 64 - 1) ≡ min (sum_by size_of (map bytes_of_pair l.fn.pairs)) (2 ^ 64 - 1);
  most : l.size ≤ 2 ^ 64 - 1;
}
