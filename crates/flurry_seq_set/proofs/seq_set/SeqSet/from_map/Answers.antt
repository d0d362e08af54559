use Rattle.std.proofs.Common.{rules}
use Rattle.flurry_seq_set.proofs.seq_set.SeqSet.from_map.Goals as goal

pub invariant_of-result : goal.invariant_of-result
invariant_of-result g c = search rules

pub returns-clause-keys : goal.returns-clause-keys
returns-clause-keys g c = search rules
