use Rattle.std.proofs.Common.{rules}
use Rattle.flurry_steps_sweep.proofs.cursor.Cursor.bound.Goals as goal

pub returns-in-Some : goal.returns-in-Some
returns-in-Some g c = search rules
