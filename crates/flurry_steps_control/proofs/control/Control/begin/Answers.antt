use Rattle.std.proofs.Common.{rules}
use Rattle.flurry_steps_control.proofs.control.Control.begin.Goals as goal

pub returns-then-is_err : goal.returns-then-is_err
returns-then-is_err g c = search rules

pub returns-else-is_err : goal.returns-else-is_err
returns-else-is_err g c = search rules
