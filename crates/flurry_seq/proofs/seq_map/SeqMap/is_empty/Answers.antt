use Rattle.std.proofs.Common.{rules}
use Rattle.flurry_seq.proofs.seq_map.SeqMap.is_empty.Goals as goal

pub returns-clause-empty : goal.returns-clause-empty
returns-clause-empty g c = search rules
