use Rattle.std.proofs.Common.{rules}
use Rattle.flurry_seq_set.proofs.seq_set.SeqSet.is_superset.Goals as goal

pub returns-clause-superset : goal.returns-clause-superset
returns-clause-superset g c = search rules

pub returns-clause-ascend : goal.returns-clause-ascend
returns-clause-ascend g c = search rules
