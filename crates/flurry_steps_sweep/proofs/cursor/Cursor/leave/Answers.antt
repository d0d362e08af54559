use Rattle.std.proofs.Common.{rules}
use Rattle.flurry_steps_sweep.proofs.Cursors.{below_higher}
use Rattle.flurry_steps_sweep.proofs.cursor.Cursor.leave.Goals as goal

pub invariant_of-self-2 : goal.invariant_of-self-2
invariant_of-self-2 g c = search (rules, below_higher)

pub returns-then-index-self : goal.returns-then-index-self
returns-then-index-self g c = search rules
