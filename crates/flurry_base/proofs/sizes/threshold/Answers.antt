use Rattle.std.proofs.Common.{rules}
use Rattle.flurry_base.proofs.sizes.threshold.Goals as goal

pub returns : goal.returns
returns c = search rules
