use Rattle.std.proofs.Common.{rules}
use Rattle.flurry_steps_control.proofs.claim.Claim.next.Goals as goal

pub returns-then-low-self-clause-value : goal.returns-then-low-self-clause-value
returns-then-low-self-clause-value c = search rules
