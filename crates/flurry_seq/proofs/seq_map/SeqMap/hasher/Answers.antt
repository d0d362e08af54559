use Rattle.std.proofs.Common.{refl}
use Rattle.flurry_base.proofs.FiniteMapLaws.{IsFiniteMap-map_of_pairs}
use Rattle.flurry_seq.specs.Table.{all_pairs}
use Rattle.flurry_seq.proofs.seq_map.SeqMap.hasher.Goals as goal

pub returns : goal.returns
returns g c =
    rw (← c.self.view_is)
    (record { same = refl; ascend = IsFiniteMap-map_of_pairs g.met.K.Ord.total (all_pairs c.self.inside.table) })
