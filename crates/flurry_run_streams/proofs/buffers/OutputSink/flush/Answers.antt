use Rattle.std.proofs.Common.{rules}
use Rattle.flurry_run_streams.proofs.buffers.OutputSink.flush.Goals as goal

pub returns-in-Ok-clause-flushed : goal.returns-in-Ok-clause-flushed
returns-in-Ok-clause-flushed g c = search rules

pub returns-in-Ok-clause-all : goal.returns-in-Ok-clause-all
returns-in-Ok-clause-all g c = search rules
