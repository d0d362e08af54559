use Rattle.std.proofs.Common.{rules}
use Rattle.flurry_run_streams.proofs.buffers.Input.new.Goals as goal

pub returns-clause-bytes : goal.returns-clause-bytes
returns-clause-bytes g c = search rules
