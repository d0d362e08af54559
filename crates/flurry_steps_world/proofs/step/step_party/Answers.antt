use Rattle.flurry_steps_world.proofs.PartsLaws.{step_of_turn}
use Rattle.flurry_steps_world.proofs.step.step_party.Goals as goal

pub returns-in-Some : goal.returns-in-Some
returns-in-Some g c = rw c.label_of.ensures (step_of_turn g.K.Ord.cmp g.F.ComputeFn.changes c.args.party c.args.call.now c.args.parts.now c.in-Some.event c.act.new.field c.act.new.party c.in-Some.ensures)
