use Rattle.std.proofs.Common.{rules}
use Rattle.flurry_bins.proofs.bin.adaptive.kind.Kind.plant.Goals as goal

pub returns-in-AsList-clause-kind : goal.returns-in-AsList-clause-kind
returns-in-AsList-clause-kind g c = search rules
