use Rattle.std.proofs.Common.{◌∙◌}
use Rattle.flurry_seq.proofs.IterLaws.{count_at}
use Rattle.flurry_base.proofs.FiniteMapLaws.{IsFiniteMap-map_of_pairs}
use Rattle.flurry_seq.specs.Table.{all_pairs}
use Rattle.flurry_seq.proofs.seq_map.SeqMap.shape_of.Goals as goal

pub returns-clause-count : goal.returns-clause-count
returns-clause-count g c =
    c.shape_of.ensures.count
    ∙ rw (← c.self.view_is) (count_at g.met.K.Ord.total (g.S.KeyHasher.hash_of c.self.inside.hasher) (g.met.S.KeyHasher.alike c.self.inside.hasher) c.self.inside.table c.args.hash c.self.invariant.placed)

pub returns-clause-ascend : goal.returns-clause-ascend
returns-clause-ascend g c = rw (← c.self.view_is) (IsFiniteMap-map_of_pairs g.met.K.Ord.total (all_pairs c.self.inside.table))
