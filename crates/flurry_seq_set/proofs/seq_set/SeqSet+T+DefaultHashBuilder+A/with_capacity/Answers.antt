use Rattle.std.proofs.Common.{rules}
use Rattle.flurry_seq_set.proofs.seq_set.SeqSet+T+DefaultHashBuilder+A.with_capacity.Goals as goal

pub returns-clause-bins : goal.returns-clause-bins
returns-clause-bins g c = search rules
