use Rattle.flurry_steps_theory.specs.Map.{answers}
use Rattle.flurry_steps_theory.proofs.OneKeyLaws.{one_key_agrees, has_gathered, has_itself}
use Rattle.flurry_steps_theory.proofs.laws.one_key_calls_agree.Goals as goal

pub returns : goal.returns
returns c _ = record {
  calls = λ a m n r finite alike. one_key_agrees c.K.Ord.cmp c.met.K.Ord.total m n finite alike (answers c.F.Fn) r a;
  maps = has_gathered c.K.Ord.cmp c.met.K.Ord.total;
  lookups = has_itself c.K.Ord.cmp c.met.K.Ord.total;
}
