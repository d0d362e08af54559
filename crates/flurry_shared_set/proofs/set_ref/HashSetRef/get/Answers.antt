use Rattle.std.proofs.Common.{rules}
use Rattle.flurry_shared_set.proofs.set_ref.HashSetRef.get.Goals as goal

pub returns-in-Some : goal.returns-in-Some
returns-in-Some g c = search rules
