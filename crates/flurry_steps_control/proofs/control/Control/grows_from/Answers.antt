use Rattle.std.proofs.Common.{rules}
use Rattle.flurry_steps_control.proofs.control.Control.grows_from.Goals as goal

pub returns-in-Some-None-clause-value : goal.returns-in-Some-None-clause-value
returns-in-Some-None-clause-value c = search rules
