use Rattle.std.proofs.Common.{rules}
use Rattle.flurry_steps.proofs.party.single.Single.take_reply.Goals as goal

pub returns-in-Done-clause-value : goal.returns-in-Done-clause-value
returns-in-Done-clause-value g c = search rules
