use Rattle.std.proofs.Common.{rules}
use Rattle.flurry_shared_view.proofs.map_ref.HashMapRef.reserve.Goals as goal

pub returns-in-Ended : goal.returns-in-Ended
returns-in-Ended g c = search rules

pub returns-in-Refused : goal.returns-in-Refused
returns-in-Refused g c = search rules
