use Rattle.std.proofs.Common.{map}
use Rattle.std.proofs.lemmas.List.Sorted.{IsPermutation-map}
use Rattle.std.proofs.lemmas.List.{length-map}
use Rattle.flurry_c_base.specs.ByteMaps.{bytes_of_pair}
use Rattle.flurry_c_base.proofs.ByteWalkLaws.{size_of_bytes}
use Rattle.flurry_c_base.proofs.byte_map.ByteMap.write_pairs.Goals as goal

pub write_pairs-requires-clause-size : goal.write_pairs-requires-clause-size
write_pairs-requires-clause-size c = rw (size_of_bytes c.args.self.now.map.pairs c.iter.result c.iter.ensures.pairs) c.requires.size

pub returns : goal.returns
returns c = (
  map bytes_of_pair c.iter.result,
  IsPermutation-map bytes_of_pair c.args.self.now.map.pairs c.iter.result c.iter.ensures.pairs,
  rw (length-map c.iter.result bytes_of_pair) c.write_pairs.ensures.lengths,
  c.write_pairs.ensures.text,
)
