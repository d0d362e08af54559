use Rattle.std.proofs.Common.{rules}
use Rattle.flurry_base.proofs.sizes.bin_index.Goals as goal

pub returns-clause-place : goal.returns-clause-place
returns-clause-place c = search rules
