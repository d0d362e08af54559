use Rattle.std.proofs.Common.{[], length, ap}
use Rattle.flurry_seq.specs.Contents.{contents}
use Rattle.flurry_seq.proofs.GrowthLemmas.{IsTable-empty, all_pairs-empty, length-empty}
use Rattle.flurry_base.proofs.FiniteMapLaws.{IsFiniteMap-map_of_pairs}
use Rattle.flurry_seq.specs.Table.{all_pairs}
use Rattle.flurry_seq.proofs.seq_map.SeqMap.clear.Goals as goal

pub invariant_of-self : goal.invariant_of-self
invariant_of-self g c = rw c.clear.ensures (IsTable-empty g.row.V.Denot g.K.Ord.cmp (g.S.KeyHasher.hash_of c.self.inside.hasher) (length c.self.inside.table))

pub returns-clause-after : goal.returns-clause-after
returns-clause-after g c =
    rw (← c.self.view_is, c.clear.ensures, all_pairs-empty g.row.V.Denot g.K.Ord.cmp (g.S.KeyHasher.hash_of c.self.inside.hasher) (length c.self.inside.table))
    (ap (λ n. contents [] n c.self.inside.hasher) (length-empty g.row.V.Denot g.K.Ord.cmp (g.S.KeyHasher.hash_of c.self.inside.hasher) (length c.self.inside.table)))

pub returns-clause-ascend : goal.returns-clause-ascend
returns-clause-ascend g c = rw (← c.self.view_is) (IsFiniteMap-map_of_pairs g.met.K.Ord.total (all_pairs c.self.inside.table))
