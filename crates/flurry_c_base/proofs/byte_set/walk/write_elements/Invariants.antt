use Rattle.std.proofs.Common.{◌≡◌, ◌+◌, ◌++◌, drop, length, map, sum_by, take}
use Rattle.std.specs.List.{concat}
use Rattle.flurry_c_base.specs.ByteStrings.{bytes_of}
use Rattle.flurry_c_base.proofs.byte_set.walk.write_elements.Given as goal

abbrev pub invariant-loop-element : goal.invariant-loop-element
invariant-loop-element l = record {
  lengths : take l.at l.lengths ++ map length (map bytes_of l.element-iterator) ≡ map length (map bytes_of l.fn.elements);
  behind : drop l.at l.lengths ≡ drop l.at l.fn.lengths;
  count : l.at + length l.element-iterator ≡ length l.fn.elements;
  room : length l.lengths ≡ length l.fn.lengths;
  text : take l.end l.text ++ concat (map bytes_of l.element-iterator) ≡ concat (map bytes_of l.fn.elements);
  text_behind : drop l.end l.text ≡ drop l.end l.fn.text;
  text_count : l.end + sum_by length (map bytes_of l.element-iterator) ≡ sum_by length (map bytes_of l.fn.elements);
  text_room : length l.text ≡ length l.fn.text;
}
