use Rattle.std.proofs.Common.{◌≡◌, ◌++◌, All}
use Rattle.std.specs.Vec.Iter.{into_iter_items}
use Rattle.flurry_steps_world.specs.Runs.{Runs, StepIsReady}
use Rattle.flurry_steps_world.proofs.world.World.run.Given as goal

abbrev pub invariant-loop-step : goal.invariant-loop-step
invariant-loop-step g l = record {
  ran : Runs g.K.Ord.cmp (g.S.KeyHasher.hash_of l.initial.self.hasher) g.F.ComputeFn.changes l.yielded l.initial.self l.self;
  hasher : l.self.hasher ≡ l.initial.self.hasher;
  split : l.yielded ++ into_iter_items l.step-iterator ≡ l.fn.steps.items;
  ready : All (StepIsReady g.F.ComputeFn.can_change g.F.ComputeFn.never_keeps) (into_iter_items l.step-iterator);
}
