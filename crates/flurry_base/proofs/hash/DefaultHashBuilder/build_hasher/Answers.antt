use Rattle.std.proofs.Common.{rules}
use Rattle.flurry_base.proofs.hash.DefaultHashBuilder.build_hasher.Goals as goal

pub returns : goal.returns
returns c = search rules
