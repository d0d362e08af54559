use Rattle.std.proofs.Common.{rules}
use Rattle.flurry_seq.proofs.seq_map.SeqMap.get.Goals as goal

pub returns-in-Some-clause-value : goal.returns-in-Some-clause-value
returns-in-Some-clause-value g c = search rules
