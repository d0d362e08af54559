use Rattle.std.proofs.Common.{rules}
use Rattle.flurry_shared_view.proofs.map_ref.HashMapRef.reborrow.Goals as goal

pub returns : goal.returns
returns g c = search rules
