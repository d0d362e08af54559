use Rattle.std.proofs.Common.{rules}
use Rattle.flurry_run_lines.proofs.seq.NumbersScript.answer_line.Goals as goal

pub returns-in_ok-answer-in-Some-clause-answer : goal.returns-in_ok-answer-in-Some-clause-answer
returns-in_ok-answer-in-Some-clause-answer g c = search rules
