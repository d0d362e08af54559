use Rattle.std.proofs.Common.{rules}
use Rattle.flurry_steps.proofs.field.act.Goals as goal

pub returns-in-Look : goal.returns-in-Look
returns-in-Look g c = search rules
