use Rattle.std.proofs.Common.{rules}
use Rattle.flurry_bins.proofs.bin.node.Node.of_key.Goals as goal

pub returns : goal.returns
returns g c = search rules
