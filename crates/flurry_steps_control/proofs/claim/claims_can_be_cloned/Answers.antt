use Rattle.std.proofs.Common.{rules}
use Rattle.flurry_steps_control.proofs.claim.claims_can_be_cloned.Goals as goal

pub returns : goal.returns
returns c = search rules
