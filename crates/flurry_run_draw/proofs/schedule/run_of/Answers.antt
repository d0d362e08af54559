use Rattle.std.proofs.Common.{rules}
use Rattle.flurry_run_draw.proofs.schedule.run_of.Goals as goal

pub returns-clause-run : goal.returns-clause-run
returns-clause-run g = search rules
