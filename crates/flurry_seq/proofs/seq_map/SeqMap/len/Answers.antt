use Rattle.std.proofs.Common.{rules}
use Rattle.flurry_base.proofs.FiniteMapLaws.{IsFiniteMap-map_of_pairs}
use Rattle.flurry_seq.specs.Table.{all_pairs}
use Rattle.flurry_seq.proofs.seq_map.SeqMap.len.Goals as goal

pub returns-clause-ascend : goal.returns-clause-ascend
returns-clause-ascend g c = rw (← c.self.view_is) (IsFiniteMap-map_of_pairs g.met.K.Ord.total (all_pairs c.self.inside.table))

pub returns-clause-pairs : goal.returns-clause-pairs
returns-clause-pairs g c = search rules
