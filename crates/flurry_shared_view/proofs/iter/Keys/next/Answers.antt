use Rattle.std.proofs.Common.{rules}
use Rattle.flurry_shared_view.proofs.iter.Keys.next.Goals as goal

pub returns-in-Some : goal.returns-in-Some
returns-in-Some g c = search rules
