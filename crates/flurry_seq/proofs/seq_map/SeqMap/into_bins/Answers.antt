use Rattle.std.proofs.Common.{refl}
use Rattle.flurry_seq.proofs.IterLaws.{pairs_permute}
use Rattle.flurry_base.proofs.FiniteMapLaws.{IsFiniteMap-map_of_pairs}
use Rattle.flurry_seq.specs.Table.{all_pairs}
use Rattle.flurry_seq.proofs.seq_map.SeqMap.into_bins.Goals as goal

pub returns-clause-bins : goal.returns-clause-bins
returns-clause-bins g c =
    rw (c.into_bins.ensures.bins, ← c.self.view_is)
    (record {
      count = refl;
      pairs = pairs_permute g.met.K.Ord.total (g.S.KeyHasher.hash_of c.self.inside.hasher) (g.met.S.KeyHasher.alike c.self.inside.hasher) c.self.inside.table c.self.invariant.placed;
      placed = c.self.invariant.placed;
    })

pub returns-clause-ascend : goal.returns-clause-ascend
returns-clause-ascend g c = rw (← c.self.view_is) (IsFiniteMap-map_of_pairs g.met.K.Ord.total (all_pairs c.self.inside.table))
