use Rattle.std.proofs.Common.{refl}
use Rattle.flurry_steps.specs.StepClosure.{still, further}
use Rattle.flurry_shared_view.proofs.WalkLaws.{begins}
use Rattle.flurry_shared_view.proofs.iter.Iter.new.Goals as goal

pub invariant_of-result : goal.invariant_of-result
invariant_of-result g c =
    let b = begins g.K.Ord.cmp c.walk-walk.result c.step_walk.new.walk c.step_walk.result c.walk-walk.ensures c.step_walk.ensures in
    λ e. further b.0 still b.1

pub returns : goal.returns
returns g c =
    let b = begins g.K.Ord.cmp c.walk-walk.result c.step_walk.new.walk c.step_walk.result c.walk-walk.ensures c.step_walk.ensures in
    record { event = b.0; step = b.1; goes_on = refl }
