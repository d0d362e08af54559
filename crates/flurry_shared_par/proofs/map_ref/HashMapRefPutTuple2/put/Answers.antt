use Rattle.std.proofs.Common.{rules}
use Rattle.flurry_shared_par.proofs.map_ref.HashMapRefPutTuple2.put.Goals as goal

pub returns : goal.returns
returns g c = search rules
