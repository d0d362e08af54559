use Rattle.std.proofs.Common.{rules}
use Rattle.flurry_steps.proofs.party.single.Single.is_counting.Goals as goal

pub returns-in_default : goal.returns-in_default
returns-in_default g c = search rules
