use Rattle.std.proofs.Common.{rules}
use Rattle.flurry_seq.proofs.seq_map.SeqMap.contains_key.Goals as goal

pub returns-clause-found : goal.returns-clause-found
returns-clause-found g c = search rules
