use Rattle.std.proofs.Common.{rules}
use Rattle.flurry_steps_sweep.proofs.sweep.Sweep.take_reply.Goals as goal

pub returns-in-End-clause-some : goal.returns-in-End-clause-some
returns-in-End-clause-some g c = search rules
