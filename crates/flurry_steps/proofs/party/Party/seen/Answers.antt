use Rattle.std.proofs.Common.{rules}
use Rattle.flurry_steps.proofs.party.Party.seen.Goals as goal

pub returns-in-Sweep-clause-ok : goal.returns-in-Sweep-clause-ok
returns-in-Sweep-clause-ok g c = search rules
