use Rattle.flurry_steps.specs.StepClosure.{StepClosure}
use Rattle.flurry_shared_view.specs.Walks.{OtherStep}
use Rattle.flurry_shared_view.proofs.iter.read_next.Given as goal

abbrev pub invariant-loop : goal.invariant-loop
invariant-loop g l =
    (goal.iterator-loop g).can_next l.iterator'
    × (goal.iterator-loop g).is_finite l.iterator'
    × StepClosure {S = Unit {0}} (OtherStep g.K.Ord.cmp) tt l.fn.walk tt l.walk
