use Rattle.std.proofs.Common.{rules}
use Rattle.flurry_shared_par.proofs.workers.workers_for.Goals as goal

pub returns : goal.returns
returns g = search rules
