use Rattle.std.proofs.Common.{rules}
use Rattle.flurry_steps.proofs.party.single.Single.want.Goals as goal

pub returns-in_default-task : goal.returns-in_default-task
returns-in_default-task g c = search rules
