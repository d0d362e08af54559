use Rattle.std.proofs.Common.{rules}
use Rattle.flurry_bins.proofs.bin.node.Node.of_pair.Goals as goal

pub returns-clause-number : goal.returns-clause-number
returns-clause-number g c = search rules
