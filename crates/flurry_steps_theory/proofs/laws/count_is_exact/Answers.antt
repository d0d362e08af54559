use Rattle.flurry_steps_theory.specs.Map.{answers}
use Rattle.flurry_steps_theory.specs.Invariant.{new_world, after_all}
use Rattle.flurry_steps_theory.proofs.Counts.{nothing_owed}
use Rattle.flurry_steps_theory.proofs.Step.{inv_after}
use Rattle.flurry_steps_theory.proofs.laws.count_is_exact.Goals as goal

pub returns : goal.returns
returns c _ hash lawful e b l steps can f = nothing_owed c.K.Ord.cmp c.met.K.Ord.total hash lawful (answers c.F.Fn) (after_all c.K.Ord.cmp hash (answers c.F.Fn) (new_world e b) steps) (inv_after c.K.Ord.cmp c.met.K.Ord.total hash lawful (answers c.F.Fn) e b l steps can).1.counted f
