use Rattle.std.proofs.Common.{rules}
use Rattle.flurry_steps_control.proofs.control.Control.drain_tally.Goals as goal

pub returns-clause-after : goal.returns-clause-after
returns-clause-after c = search rules
