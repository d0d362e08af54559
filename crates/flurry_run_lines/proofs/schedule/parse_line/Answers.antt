use Rattle.std.proofs.Common.{rules}
use Rattle.flurry_run_lines.proofs.schedule.parse_line.Goals as goal

pub returns-in-Some-party_and_steps : goal.returns-in-Some-party_and_steps
returns-in-Some-party_and_steps c = search rules
