use Rattle.flurry_shared_locks.proofs.lock_field.LockField.step_walk.Goals as goal

pub returns-in-Control : goal.returns-in-Control
returns-in-Control g c = rw c.release.ensures at c.walk_at_control.ensures
