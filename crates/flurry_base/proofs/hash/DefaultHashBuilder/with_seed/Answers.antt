use Rattle.std.proofs.Common.{rules}
use Rattle.flurry_base.proofs.hash.DefaultHashBuilder.with_seed.Goals as goal

pub returns : goal.returns
returns c = search rules

pub invariant_of-result : goal.invariant_of-result
invariant_of-result = search rules
