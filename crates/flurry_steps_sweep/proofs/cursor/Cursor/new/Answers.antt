use Rattle.std.proofs.Common.{rules}
use Rattle.flurry_steps_sweep.proofs.cursor.Cursor.new.Goals as goal

pub returns : goal.returns
returns g c = search rules
