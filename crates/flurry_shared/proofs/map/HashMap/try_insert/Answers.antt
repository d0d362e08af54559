use Rattle.std.proofs.Common.{rules}
use Rattle.flurry_shared.proofs.map.HashMap.try_insert.Goals as goal

pub returns-clause-answer : goal.returns-clause-answer
returns-clause-answer g c = search rules
