use Rattle.std.proofs.Common.{rules}
use Rattle.flurry_steps_sweep.proofs.Cursors.{few_below}
use Rattle.flurry_steps_sweep.proofs.cursor.Cursor.split.Goals as goal

pub push-requires : goal.push-requires
push-requires g c = search (rules, few_below)

pub returns-clause-ok : goal.returns-clause-ok
returns-clause-ok g c = search rules
