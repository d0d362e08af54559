use Rattle.std.proofs.Common.{rules}
use Rattle.flurry_shared_view.proofs.map_ref.HashMapRef.compute_if_present.Goals as goal

pub returns-in-Value-clause-answer : goal.returns-in-Value-clause-answer
returns-in-Value-clause-answer g c = search rules

pub returns-in-Value-clause-computed : goal.returns-in-Value-clause-computed
returns-in-Value-clause-computed g c = search rules
