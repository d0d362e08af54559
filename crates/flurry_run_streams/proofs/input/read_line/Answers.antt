use Rattle.std.proofs.Common.{rules}
use Rattle.flurry_run_streams.proofs.input.read_line.Goals as goal

pub returns-in-None-clause-gave : goal.returns-in-None-clause-gave
returns-in-None-clause-gave g c = search rules
