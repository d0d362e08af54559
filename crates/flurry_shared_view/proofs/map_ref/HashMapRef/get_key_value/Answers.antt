use Rattle.std.proofs.Common.{rules}
use Rattle.flurry_shared_view.proofs.map_ref.HashMapRef.get_key_value.Goals as goal

pub returns-in-Pair : goal.returns-in-Pair
returns-in-Pair g c = search rules
