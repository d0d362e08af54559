use Rattle.std.proofs.Common.{rules}
use Rattle.beside_field.proofs.beside.is_published_table.Goals as goal

pub returns-in-Unborn : goal.returns-in-Unborn
returns-in-Unborn g c = search rules
