use Rattle.flurry_steps_world.specs.WorldView.{world_state_of}
use Rattle.flurry_steps_world.proofs.LawfulLaws.{is_lawful}
use Rattle.flurry_steps_world.proofs.WorldSteps.{alike_class}
use Rattle.flurry_steps_world.proofs.world.World.trace.Goals as goal

pub returns-clause-lawful : goal.returns-clause-lawful
returns-clause-lawful g c =
    rw (← c.self.view_is)
    (is_lawful g.K.Ord.cmp g.met.K.Ord.total (g.S.KeyHasher.hash_of c.self.inside.hasher) (alike_class g.K.Ord.cmp (g.S.KeyHasher.hash_of c.self.inside.hasher) (g.met.S.KeyHasher.alike c.self.inside.hasher)) g.F.ComputeFn.changes (world_state_of c.self.inside) c.self.invariant.world)
