use Rattle.std.proofs.Common.{rules}
use Rattle.flurry_shared.proofs.map.HashMap.try_clone.Goals as goal

pub returns-in-Ok : goal.returns-in-Ok
returns-in-Ok g c = search rules
