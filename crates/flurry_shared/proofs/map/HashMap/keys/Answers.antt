use Rattle.std.proofs.Common.{rules}
use Rattle.flurry_shared.proofs.map.HashMap.keys.Goals as goal

pub returns : goal.returns
returns g c = search rules
