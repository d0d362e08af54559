use Rattle.std.proofs.Common.{rules}
use Rattle.flurry_seq.proofs.seq_map.SeqMap.insert_arc.Goals as goal

pub returns-then-is_some-clause-old : goal.returns-then-is_some-clause-old
returns-then-is_some-clause-old g c = search rules

pub returns-then-is_some-clause-pairs : goal.returns-then-is_some-clause-pairs
returns-then-is_some-clause-pairs g c = search rules
