use Rattle.std.proofs.Common.{rules}
use Rattle.flurry_seq.proofs.seq_map.SeqMap+K+V+DefaultHashBuilder+A.new.Goals as goal

pub returns-clause-ascend : goal.returns-clause-ascend
returns-clause-ascend g c = c.with_hasher.ensures.ascend

pub returns-clause-seed : goal.returns-clause-seed
returns-clause-seed g c = search rules
