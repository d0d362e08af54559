use Rattle.std.proofs.Common.{rules}
use Rattle.flurry_bins.proofs.bin.node.Node.into_entry.Goals as goal

pub returns : goal.returns
returns g c = search rules
