use Rattle.std.proofs.Common.{refl, inr, ap}
use Rattle.std.specs.Prelude.{codes}
use Rattle.flurry_run_lines.proofs.Results.{on_ok}
use Rattle.flurry_run_lines.proofs.seq.answer.Goals as goal

pub returns-in-Err-clause-answer : goal.returns-in-Err-clause-answer
returns-in-Err-clause-answer g c = rw c.in-Insert.is (on_ok c.write_line.result _ _ c.write_line.ensures.bytes (λ b. (codes "refused", inr (refl, ap (λ m. m.pairs) c.in-Err.ensures.err), b)))
