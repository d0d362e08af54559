use Rattle.flurry_steps_theory.specs.Map.{answers}
use Rattle.flurry_steps_theory.proofs.Starts.{was_after}
use Rattle.flurry_steps_theory.proofs.laws.exponents_stay_published.Goals as goal

pub returns : goal.returns
returns c _ hash lawful e b l more steps can x h = was_after c.K.Ord.cmp c.met.K.Ord.total hash lawful (answers c.F.Fn) e b l more steps can x h
