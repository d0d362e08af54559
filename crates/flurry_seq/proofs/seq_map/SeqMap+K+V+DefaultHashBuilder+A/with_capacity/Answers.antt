use Rattle.std.proofs.Common.{rules}
use Rattle.flurry_seq.proofs.seq_map.SeqMap+K+V+DefaultHashBuilder+A.with_capacity.Goals as goal

pub returns-clause-bins : goal.returns-clause-bins
returns-clause-bins g c = search rules
