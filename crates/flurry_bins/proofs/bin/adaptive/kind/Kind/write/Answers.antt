use Rattle.std.proofs.Common.{rules}
use Rattle.flurry_bins.proofs.bin.adaptive.kind.Kind.write.Goals as goal

pub returns-in-AsTree-clause-entries : goal.returns-in-AsTree-clause-entries
returns-in-AsTree-clause-entries g c = search rules
