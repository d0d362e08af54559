use Rattle.std.proofs.Common.{rules}
use Rattle.flurry_steps.proofs.party.ending.Ending.into_stage.Goals as goal

pub returns-in-Uncount-clause-stage : goal.returns-in-Uncount-clause-stage
returns-in-Uncount-clause-stage g c = search rules
