use Rattle.std.proofs.Common.{rules}
use Rattle.flurry_seq.proofs.seq_map.SeqMap.remove_entry.Goals as goal

pub returns-clause-pair : goal.returns-clause-pair
returns-clause-pair g c = search rules
