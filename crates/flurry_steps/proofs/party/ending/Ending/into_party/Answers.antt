use Rattle.std.proofs.Common.{rules}
use Rattle.flurry_steps.proofs.party.ending.Ending.into_party.Goals as goal

pub returns : goal.returns
returns g c = search rules
