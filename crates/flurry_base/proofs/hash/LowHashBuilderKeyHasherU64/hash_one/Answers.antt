use Rattle.std.proofs.Common.{rules}
use Rattle.flurry_base.proofs.hash.LowHashBuilderKeyHasherU64.hash_one.Goals as goal

pub returns : goal.returns
returns c = search rules
