use Rattle.std.proofs.Common.{rules}
use Rattle.flurry_steps_world.proofs.parts.Parts.open.Goals as goal

pub returns-clause-gives : goal.returns-clause-gives
returns-clause-gives g c = search rules
