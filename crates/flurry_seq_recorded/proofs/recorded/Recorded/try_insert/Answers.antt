use Rattle.std.proofs.Common.{rules}
use Rattle.flurry_seq_recorded.proofs.recorded.Recorded.try_insert.Goals as goal

pub returns-clause-ok : goal.returns-clause-ok
returns-clause-ok g c = search rules
