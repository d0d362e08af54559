use Rattle.std.proofs.Common.{rules}
use Rattle.flurry_steps.proofs.party.first.task_of_owned.Goals as goal

pub returns-in-Clear : goal.returns-in-Clear
returns-in-Clear g c = search rules
