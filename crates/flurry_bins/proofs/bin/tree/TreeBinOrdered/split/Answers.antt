use Rattle.std.proofs.Common.{rules}
use Rattle.flurry_bins.proofs.bin.tree.TreeBinOrdered.split.Goals as goal

pub returns-clause-low : goal.returns-clause-low
returns-clause-low g c = search rules

pub returns-clause-high : goal.returns-clause-high
returns-clause-high g c = search rules
