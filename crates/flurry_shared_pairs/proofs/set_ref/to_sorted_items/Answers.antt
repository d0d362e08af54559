use Rattle.std.proofs.Common.{rules}
use Rattle.flurry_shared_pairs.proofs.set_ref.to_sorted_items.Goals as goal

pub returns : goal.returns
returns g c = search rules
