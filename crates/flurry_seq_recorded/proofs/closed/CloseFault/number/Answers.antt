use Rattle.std.proofs.Common.{rules}
use Rattle.flurry_seq_recorded.proofs.closed.CloseFault.number.Goals as goal

pub returns-in-PlacesDiffer : goal.returns-in-PlacesDiffer
returns-in-PlacesDiffer g = search rules
