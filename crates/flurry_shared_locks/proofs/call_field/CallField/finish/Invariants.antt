use Rattle.flurry_steps.specs.Field.{FieldStep}
use Rattle.flurry_steps.specs.StepClosure.{StepClosure}
use Rattle.flurry_shared_locks.specs.declared.tables.LockRoom.{LockRoom}
use Rattle.flurry_shared_locks.specs.LockLoans.{CallLends, RoomStays}
use Rattle.flurry_shared_locks.proofs.call_field.CallField.finish.Given as goal

abbrev pub invariant-loop : goal.invariant-loop
invariant-loop g l =
    (goal.iterator-loop g).can_next l.iterator'
    × (goal.iterator-loop g).is_finite l.iterator'
    × StepClosure (FieldStep (RoomStays {M = LockRoom g.row.K.Denot g.row.V.Denot g.row.A.Denot}) g.K.Ord.cmp g.F.ComputeFn.changes CallLends) l.fn.self l.fn.party l.self l.party
