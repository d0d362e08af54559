use Rattle.std.proofs.Common.{rules}
use Rattle.flurry_shared_set.proofs.set.HashSet.try_clone.Goals as goal

pub returns : goal.returns
returns g c = search rules
