use Rattle.std.proofs.Common.{rules}
use Rattle.flurry_steps_sweep.proofs.seen.Seen.try_clone.Goals as goal

pub returns : goal.returns
returns g c = search rules
