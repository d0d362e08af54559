use Rattle.std.proofs.Common.{rules}
use Rattle.flurry_seq.proofs.iter.ValuesIterator.next.Goals as goal

pub returns-clause-steps : goal.returns-clause-steps
returns-clause-steps g c = search rules
