use Rattle.std.proofs.Common.{rules}
use Rattle.flurry_shared_set.proofs.set.HashSet+T+DefaultHashBuilder+A.new.Goals as goal

pub returns-clause-processors : goal.returns-clause-processors
returns-clause-processors g c = search rules
