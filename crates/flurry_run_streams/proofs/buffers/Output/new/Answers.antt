use Rattle.std.proofs.Common.{rules}
use Rattle.flurry_run_streams.proofs.buffers.Output.new.Goals as goal

pub returns-clause-bytes : goal.returns-clause-bytes
returns-clause-bytes g c = search rules

pub returns-clause-flushed : goal.returns-clause-flushed
returns-clause-flushed g c = search rules
