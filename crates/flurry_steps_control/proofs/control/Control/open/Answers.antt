use Rattle.std.proofs.Common.{rules}
use Rattle.flurry_steps_control.proofs.control.Control.open.Goals as goal

pub returns-in_ok-place-in-None-clause-gives : goal.returns-in_ok-place-in-None-clause-gives
returns-in_ok-place-in-None-clause-gives g c = search rules
