use Rattle.std.proofs.Common.{rules}
use Rattle.flurry_seq.proofs.seq_map.SeqMap.remove.Goals as goal

pub returns-clause-after : goal.returns-clause-after
returns-clause-after g c = search rules
