use Rattle.std.proofs.Common.{rules}
use Rattle.flurry_base.proofs.hash.DefaultHashBuilderDefault.default.Goals as goal

pub returns : goal.returns
returns c = search rules
