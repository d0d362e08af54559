use Rattle.std.proofs.Common.{arith}
use Rattle.std.proofs.lemmas.Grind.{common_steps}
use Rattle.flurry_seq_set.proofs.seq_set.SeqSet.len.Goals as goal

pub returns-clause-elements : goal.returns-clause-elements
returns-clause-elements g c = grind (arith, common_steps)
