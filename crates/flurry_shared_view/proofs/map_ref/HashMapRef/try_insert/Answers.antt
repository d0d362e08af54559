use Rattle.std.proofs.Common.{rules}
use Rattle.flurry_shared_view.proofs.map_ref.HashMapRef.try_insert.Goals as goal

pub returns-in-New-clause-answer : goal.returns-in-New-clause-answer
returns-in-New-clause-answer g c = search rules
