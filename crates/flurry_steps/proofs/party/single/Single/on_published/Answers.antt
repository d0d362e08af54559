use Rattle.std.proofs.Common.{rules}
use Rattle.flurry_steps.proofs.party.single.Single.on_published.Goals as goal

pub returns-clause-at : goal.returns-clause-at
returns-clause-at g c = search rules
