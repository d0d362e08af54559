use Rattle.std.proofs.Common.{arith, rules}
use Rattle.std.proofs.lemmas.Grind.{common_steps}
use Rattle.flurry_seq.proofs.seq_map.SeqMap.iter.Goals as goal

pub returns-clause-pairs : goal.returns-clause-pairs
returns-clause-pairs g c = search rules

pub returns-clause-count : goal.returns-clause-count
returns-clause-count g c = grind (arith, common_steps)
