use Rattle.std.proofs.Common.{rules}
use Rattle.flurry_shared_view.proofs.map_ref.HashMapRef.get.Goals as goal

pub returns-in-Value : goal.returns-in-Value
returns-in-Value g c = search rules
