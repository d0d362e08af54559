use Rattle.std.proofs.Common.{rules}
use Rattle.flurry_seq_set.proofs.seq_set.SeqSet.extend.Goals as goal

pub returns-clause-ok : goal.returns-clause-ok
returns-clause-ok g c = search rules
