use Rattle.std.proofs.Common.{◌≡◌, ◌+◌, ◌++◌, drop, length, take}
use Rattle.flurry_c_base.proofs.word_set.write_elements.Given as goal

abbrev pub invariant-loop-element : goal.invariant-loop-element
invariant-loop-element l = record {
  written : take l.at l.buffer ++ l.element-iterator ≡ l.fn.elements;
  behind : drop l.at l.buffer ≡ drop l.at l.fn.buffer;
  count : l.at + length l.element-iterator ≡ length l.fn.elements;
  room : length l.buffer ≡ length l.fn.buffer;
}
