use Rattle.std.proofs.Common.{rules}
use Rattle.flurry_base.proofs.sizes.stride.Goals as goal

pub returns-else-processors-le1 : goal.returns-else-processors-le1
returns-else-processors-le1 c = search rules
