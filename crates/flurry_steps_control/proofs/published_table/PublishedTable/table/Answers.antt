use Rattle.std.proofs.Common.{rules}
use Rattle.flurry_steps_control.proofs.published_table.PublishedTable.table.Goals as goal

pub returns-clause-value : goal.returns-clause-value
returns-clause-value c = search rules
