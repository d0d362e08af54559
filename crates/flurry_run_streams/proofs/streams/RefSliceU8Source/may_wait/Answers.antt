use Rattle.std.proofs.Common.{rules}
use Rattle.flurry_run_streams.proofs.streams.RefSliceU8Source.may_wait.Goals as goal

pub returns-clause-never : goal.returns-clause-never
returns-clause-never c = search rules

pub returns-clause-waits : goal.returns-clause-waits
returns-clause-waits = search rules
