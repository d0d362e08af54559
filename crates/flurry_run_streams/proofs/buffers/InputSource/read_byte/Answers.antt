use Rattle.std.proofs.Common.{rules}
use Rattle.flurry_run_streams.proofs.buffers.InputSource.read_byte.Goals as goal

pub returns-in-Ok-eq0-clause-byte : goal.returns-in-Ok-eq0-clause-byte
returns-in-Ok-eq0-clause-byte g c = search rules
