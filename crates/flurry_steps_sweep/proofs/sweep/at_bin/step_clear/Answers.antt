use Rattle.std.proofs.Common.{rules}
use Rattle.flurry_steps_sweep.proofs.sweep.at_bin.step_clear.Goals as goal

pub returns-in-Unborn-clause-step : goal.returns-in-Unborn-clause-step
returns-in-Unborn-clause-step g c = search rules
