use Rattle.std.proofs.Common.{rules}
use Rattle.flurry_shared.proofs.map.HashMap+K+V+DefaultHashBuilder+A.with_capacity.Goals as goal

pub returns-clause-seed : goal.returns-clause-seed
returns-clause-seed g c = search rules
