use Rattle.std.proofs.Common.{rules}
use Rattle.flurry_shared_pairs.proofs.map_ref.to_sorted_pairs.Goals as goal

pub returns : goal.returns
returns g c = search rules
