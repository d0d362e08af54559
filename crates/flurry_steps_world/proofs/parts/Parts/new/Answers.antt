use Rattle.std.proofs.Common.{rules}
use Rattle.flurry_steps_world.proofs.parts.Parts.new.Goals as goal

pub returns : goal.returns
returns g c = search rules
