use Rattle.std.proofs.Common.{rules}
use Rattle.flurry_steps.proofs.party.Party.last_read.Goals as goal

pub returns-in-Sweep : goal.returns-in-Sweep
returns-in-Sweep g c = search rules
