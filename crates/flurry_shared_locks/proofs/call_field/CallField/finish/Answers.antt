use Rattle.std.proofs.Common.{rules}
use Rattle.flurry_steps.specs.StepClosure.{still}
use Rattle.flurry_steps.proofs.ClosureLaws.{steps_on}
use Rattle.flurry_shared_locks.specs.LockLoans.{LockLacks}
use Rattle.flurry_shared_locks.proofs.call_field.CallField.finish.Goals as goal

pub loop-init : goal.loop-init
loop-init g c = (tt, tt, still)

pub loop-preserved-then-is_some : goal.loop-preserved-then-is_some
loop-preserved-then-is_some g c = (tt, tt, steps_on _ LockLacks _ _ _ _ _ _ c.act.result c.act.ensures c.loop.invariant.2)

pub returns-in-Some-take_reply : goal.returns-in-Some-take_reply
returns-in-Some-take_reply g c = search rules
