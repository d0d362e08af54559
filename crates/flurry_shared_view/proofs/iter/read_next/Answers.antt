use Rattle.std.proofs.Common.{subst}
use Rattle.flurry_steps.specs.StepClosure.{still, further}
use Rattle.flurry_shared_locks.specs.WalkSteps.{WalkStep}
use Rattle.flurry_shared_view.proofs.WalkLaws.{after_field_step}
use Rattle.flurry_shared_view.proofs.iter.read_next.Goals as goal

pub loop-init : goal.loop-init
loop-init g c = (tt, tt, still)

pub returns-in-Read : goal.returns-in-Read
returns-in-Read g c =
    let t = after_field_step g.K.Ord.cmp c.step_walk.result c.in-Some-step_walk.event c.loop.walk c.step_walk.new.walk c.in-Some-step_walk.is c.step_walk.ensures in
    record { before = c.loop.walk; others = c.loop.invariant.2; read = subst (λ z. WalkStep g.K.Ord.cmp c.loop.walk z c.step_walk.new.walk) c.in-Read.is t }

pub loop-preserved-in_default-event : goal.loop-preserved-in_default-event
loop-preserved-in_default-event g c =
    let t = after_field_step g.K.Ord.cmp c.step_walk.result c.in-Some-step_walk.event c.loop.walk c.step_walk.new.walk c.in-Some-step_walk.is c.step_walk.ensures in
    (tt, tt, further c.in-Some-step_walk.event c.loop.invariant.2 (c.in_default-event.not-Read, t))
