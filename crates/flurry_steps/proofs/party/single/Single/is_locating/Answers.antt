use Rattle.std.proofs.Common.{rules}
use Rattle.flurry_steps.proofs.party.single.Single.is_locating.Goals as goal

pub returns-in-Locate : goal.returns-in-Locate
returns-in-Locate g c = search rules
