use Rattle.std.proofs.Common.{rules}
use Rattle.flurry_steps_control.proofs.claim.Claim.advance.Goals as goal

pub returns-then-self-index-clause-when : goal.returns-then-self-index-clause-when
returns-then-self-index-clause-when c = search rules
