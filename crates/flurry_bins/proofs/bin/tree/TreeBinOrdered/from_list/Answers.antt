use Rattle.std.proofs.Common.{arith}
use Rattle.std.proofs.lemmas.Grind.{common_steps}
use Rattle.flurry_bins.proofs.bin.tree.TreeBinOrdered.from_list.Goals as goal

pub returns : goal.returns
returns g c = grind (arith, common_steps)
