use Rattle.std.proofs.Common.{rules}
use Rattle.flurry_seq.proofs.iter.EntriesIterator.size_hint.Goals as goal

pub returns-clause-least : goal.returns-clause-least
returns-clause-least g c = search rules

pub returns-clause-most : goal.returns-clause-most
returns-clause-most g c = search rules
