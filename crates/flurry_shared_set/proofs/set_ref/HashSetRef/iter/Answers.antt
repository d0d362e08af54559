use Rattle.std.proofs.Common.{rules}
use Rattle.flurry_shared_set.proofs.set_ref.HashSetRef.iter.Goals as goal

pub returns : goal.returns
returns g c = search rules
