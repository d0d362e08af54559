use Rattle.std.proofs.Common.{rules}
use Rattle.flurry_run_lines.proofs.parse.parse.Goals as goal

pub returns-in-Some-two_numbers-2 : goal.returns-in-Some-two_numbers-2
returns-in-Some-two_numbers-2 c = search rules
