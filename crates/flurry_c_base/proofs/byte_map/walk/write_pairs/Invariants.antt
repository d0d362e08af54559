use Rattle.std.proofs.Common.{◌≡◌, ◌+◌, ◌++◌, drop, flat_map, length, map, sum_by, take}
use Rattle.flurry_c_base.specs.ByteMaps.{bytes_of_pair}
use Rattle.flurry_c_base.specs.ByteWalks.{size_of, lengths_of, text_of}
use Rattle.flurry_c_base.proofs.byte_map.walk.write_pairs.Given as goal

abbrev pub invariant-loop-key : goal.invariant-loop-key
invariant-loop-key l = record {
  lengths : take l.at l.lengths ++ map lengths_of (map bytes_of_pair l.key-iterator) ≡ map lengths_of (map bytes_of_pair l.fn.pairs);
  behind : drop l.at l.lengths ≡ drop l.at l.fn.lengths;
  count : l.at + length l.key-iterator ≡ length l.fn.pairs;
  room : length l.lengths ≡ length l.fn.lengths;
  text : take l.end l.text ++ flat_map text_of (map bytes_of_pair l.key-iterator) ≡ flat_map text_of (map bytes_of_pair l.fn.pairs);
  text_behind : drop l.end l.text ≡ drop l.end l.fn.text;
  text_count : l.end + sum_by size_of (map bytes_of_pair l.key-iterator) ≡ sum_by size_of (map bytes_of_pair l.fn.pairs);
  text_room : length l.text ≡ length l.fn.text;
}
