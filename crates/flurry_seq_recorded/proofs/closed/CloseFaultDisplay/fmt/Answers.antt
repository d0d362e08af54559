use Rattle.std.proofs.Common.{rules}
use Rattle.flurry_seq_recorded.proofs.closed.CloseFaultDisplay.fmt.Goals as goal

pub returns-clause-writes : goal.returns-clause-writes
returns-clause-writes g c = search rules
