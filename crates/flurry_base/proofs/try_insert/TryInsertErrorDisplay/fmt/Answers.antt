use Rattle.std.proofs.Common.{rules}
use Rattle.flurry_base.proofs.try_insert.TryInsertErrorDisplay.fmt.Goals as goal

pub returns-clause-writes : goal.returns-clause-writes
returns-clause-writes g c = search rules
