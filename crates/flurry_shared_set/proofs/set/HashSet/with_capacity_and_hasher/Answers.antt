use Rattle.std.proofs.Common.{rules}
use Rattle.flurry_shared_set.proofs.set.HashSet.with_capacity_and_hasher.Goals as goal

pub returns : goal.returns
returns g c = search rules
