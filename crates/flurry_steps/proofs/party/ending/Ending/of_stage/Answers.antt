use Rattle.std.proofs.Common.{rules}
use Rattle.flurry_steps.proofs.party.ending.Ending.of_stage.Goals as goal

pub invariant_of-result : goal.invariant_of-result
invariant_of-result g c = search rules
