use Rattle.flurry_seq.proofs.GrowthLemmas.{size_most}
use Rattle.flurry_base.proofs.FiniteMapLaws.{IsFiniteMap-map_of_pairs}
use Rattle.flurry_seq.specs.Table.{all_pairs}
use Rattle.flurry_seq.proofs.seq_map.SeqMap.capacity.Goals as goal

pub returns-clause-most : goal.returns-clause-most
returns-clause-most g c = size_most c.len.result c.len.ensures.size

pub returns-clause-ascend : goal.returns-clause-ascend
returns-clause-ascend g c = rw (← c.self.view_is) (IsFiniteMap-map_of_pairs g.met.K.Ord.total (all_pairs c.self.inside.table))
