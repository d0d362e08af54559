use Rattle.flurry_steps.specs.Field.{FieldStep}
use Rattle.flurry_steps.specs.StepClosure.{StepClosure}
use Rattle.flurry_steps.proofs.field.finish.Given as goal

abbrev pub invariant-loop : goal.invariant-loop
invariant-loop g l =
    (goal.iterator-loop g).can_next l.iterator'
    × (goal.iterator-loop g).is_finite l.iterator'
    × StepClosure (FieldStep g.X.Room.Room.place_gives g.K.Ord.cmp g.F.ComputeFn.changes g.X.Field.lends) l.fn.field l.fn.party l.field l.party
