use Rattle.flurry_steps_theory.specs.Map.{answers}
use Rattle.flurry_steps_theory.proofs.Step.{inv_after}
use Rattle.flurry_steps_theory.proofs.laws.every_interleaving.Goals as goal

pub returns : goal.returns
returns c _ hash lawful e b l steps can = inv_after c.K.Ord.cmp c.met.K.Ord.total hash lawful (answers c.F.Fn) e b l steps can
