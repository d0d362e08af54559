use Rattle.std.proofs.Common.{rules}
use Rattle.flurry_base.proofs.hash.DefaultHashBuilderKeyHasher.hash_one.Goals as goal

pub returns : goal.returns
returns g c = search rules
