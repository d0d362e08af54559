use Rattle.std.proofs.Common.{sym, ◌∙◌}
use Rattle.flurry_shared_locks.specs.WalkSteps.{AtControl, AtPublishedTable}
use Rattle.flurry_shared_locks.proofs.lock_field.LockField.walk_at_control.Goals as goal

pub returns-in-Some : goal.returns-in-Some
returns-in-Some g c = AtPublishedTable c.in-Some.start.now (sym c.is_at_start.ensures ∙ c.if-is_at_start.true) c.on_published.ensures.within c.on_published.ensures.silent c.on_published.ensures.at

pub returns : goal.returns
returns g c = AtControl c.deref_mut.result.now c.on_control.new.control c.requires c.on_control.ensures
