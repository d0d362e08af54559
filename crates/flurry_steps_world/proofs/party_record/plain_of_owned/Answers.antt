use Rattle.std.proofs.Common.{rules}
use Rattle.flurry_steps_world.proofs.party_record.plain_of_owned.Goals as goal

pub returns-in-Clear : goal.returns-in-Clear
returns-in-Clear g c = search rules
