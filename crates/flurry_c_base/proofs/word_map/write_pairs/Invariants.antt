use Rattle.std.proofs.Common.{◌≡◌, ◌+◌, ◌++◌, drop, length, map, take}
use Rattle.flurry_c_base.specs.WordWalks.{pair_of}
use Rattle.flurry_c_base.proofs.word_map.write_pairs.Given as goal

abbrev pub invariant-loop-key : goal.invariant-loop-key
invariant-loop-key l = record {
  written : take l.at l.buffer ++ map pair_of l.key-iterator ≡ map pair_of l.fn.pairs;
  behind : drop l.at l.buffer ≡ drop l.at l.fn.buffer;
  count : l.at + length l.key-iterator ≡ length l.fn.pairs;
  room : length l.buffer ≡ length l.fn.buffer;
}
