use Rattle.std.proofs.Common.{rules}
use Rattle.flurry_run_streams.proofs.buffers.OutputSink.write_line.Goals as goal

pub returns-in-Ok-clause-bytes : goal.returns-in-Ok-clause-bytes
returns-in-Ok-clause-bytes g c = search rules
