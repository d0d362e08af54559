use Rattle.std.proofs.Common.{rules}
use Rattle.flurry_shared_locks.specs.WalkSteps.{AtSlot}
use Rattle.flurry_shared_locks.proofs.lock_field.LockField.walk_at_slot.Goals as goal

pub returns : goal.returns
returns g c = AtSlot c.deref-2.result.now (search (rules, c.requires, c.ne.ensures, c.if-ne.false, c.at.ensures.at)) c.on_look.ensures.within c.on_look.ensures.step
