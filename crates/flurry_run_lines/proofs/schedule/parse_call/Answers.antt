use Rattle.std.proofs.Common.{rules}
use Rattle.flurry_run_lines.proofs.schedule.parse_call.Goals as goal

pub returns-then-eq : goal.returns-then-eq
returns-then-eq c = search rules
