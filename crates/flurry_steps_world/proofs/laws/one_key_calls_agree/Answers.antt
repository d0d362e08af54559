use Rattle.flurry_steps_theory.proofs.OneKeyLaws.{one_key_agrees}
use Rattle.flurry_steps_world.proofs.laws.one_key_calls_agree.Goals as goal

pub returns : goal.returns
returns c _ a m n r finite alike = one_key_agrees c.K.Ord.cmp c.met.K.Ord.total m n finite alike c.F.ComputeFn.changes r a
