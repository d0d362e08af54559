use Rattle.std.proofs.Common.{rules}
use Rattle.flurry_shared_view.proofs.map_ref.HashMapRef.remove_seen.Goals as goal

pub returns : goal.returns
returns g c = search rules
