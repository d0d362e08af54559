use Rattle.std.proofs.Common.{rules}
use Rattle.flurry_bins.proofs.bin.adaptive.kind.Kind.into_list.Goals as goal

pub returns-in-AsList : goal.returns-in-AsList
returns-in-AsList g c = search rules
