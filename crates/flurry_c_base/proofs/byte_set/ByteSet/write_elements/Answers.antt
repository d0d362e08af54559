use Rattle.std.proofs.Common.{map}
use Rattle.std.proofs.lemmas.List.{length-map}
use Rattle.std.proofs.lemmas.List.Sorted.{IsPermutation-map}
use Rattle.flurry_c_base.specs.ByteStrings.{bytes_of}
use Rattle.flurry_c_base.proofs.ByteSetLaws.{size_of_elements}
use Rattle.flurry_c_base.proofs.byte_set.ByteSet.write_elements.Goals as goal

pub write_elements-requires-clause-size : goal.write_elements-requires-clause-size
write_elements-requires-clause-size c = rw (size_of_elements c.args.self.now.set.elements c.iter.result c.iter.ensures.elements) c.requires.size

pub returns : goal.returns
returns c = (
  map bytes_of c.iter.result,
  IsPermutation-map bytes_of c.args.self.now.set.elements c.iter.result c.iter.ensures.elements,
  rw (length-map c.iter.result bytes_of) c.write_elements.ensures.lengths,
  c.write_elements.ensures.text,
)
