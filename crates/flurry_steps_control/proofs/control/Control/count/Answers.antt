use Rattle.std.proofs.Common.{rules}
use Rattle.flurry_steps_control.proofs.control.Control.count.Goals as goal

pub returns-in_default-published-2-clause-advice : goal.returns-in_default-published-2-clause-advice
returns-in_default-published-2-clause-advice c = search rules
