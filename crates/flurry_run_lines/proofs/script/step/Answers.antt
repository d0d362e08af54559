use Rattle.std.proofs.Common.{rules}
use Rattle.flurry_run_lines.proofs.script.step.Goals as goal

pub answer_next-requires : goal.answer_next-requires
answer_next-requires g c = search rules
