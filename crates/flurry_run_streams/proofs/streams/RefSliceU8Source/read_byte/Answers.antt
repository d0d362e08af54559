use Rattle.std.proofs.Common.{rules}
use Rattle.flurry_run_streams.proofs.streams.RefSliceU8Source.read_byte.Goals as goal

pub returns-in-Some-clause-byte : goal.returns-in-Some-clause-byte
returns-in-Some-clause-byte c = search rules
