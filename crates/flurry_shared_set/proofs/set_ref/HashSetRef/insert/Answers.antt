use Rattle.std.proofs.Common.{rules}
use Rattle.flurry_shared_set.proofs.set_ref.HashSetRef.insert.Goals as goal

pub returns-in-Ok : goal.returns-in-Ok
returns-in-Ok g c = search rules
