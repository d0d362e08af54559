use Rattle.std.proofs.Common.{rules}
use Rattle.flurry_seq_set.proofs.seq_set.SeqSet+T+DefaultHashBuilder+A.new.Goals as goal

pub returns-clause-seed : goal.returns-clause-seed
returns-clause-seed g c = search rules
