use Rattle.std.proofs.Common.{rules, arith}
use Rattle.std.proofs.lemmas.Grind.{common_steps}
use Rattle.flurry_seq_set.proofs.seq_set.SeqSet.iter.Goals as goal

pub returns-clause-elements : goal.returns-clause-elements
returns-clause-elements g c = search rules

pub returns-clause-count : goal.returns-clause-count
returns-clause-count g c = grind (arith, common_steps)
