use Rattle.std.proofs.Common.{◌<◌, ◌∙◌, length, ap, sym}
use Rattle.flurry_base.specs.FiniteMap.{map_of_pairs}
use Rattle.flurry_seq.specs.Contents.{contents}
use Rattle.flurry_seq.specs.Table.{all_pairs}
use Rattle.flurry_seq.proofs.GrowthLemmas.{IsTable-after, map_of_pairs-after, length-after}
use Rattle.flurry_seq.proofs.seq_map.SeqMap.enlarge.Goals as goal

pub invariant_of-self-2 : goal.invariant_of-self-2
invariant_of-self-2 g c =
    let some : 0 < length c.self.inside.table = rw (← c.self.view_is) at c.requires.table in
    let done = c.in_ok-enlarge.ensures.ok in
    rw done.2 (IsTable-after g.met.K.Ord.total (g.S.KeyHasher.hash_of c.self.inside.hasher) (g.met.S.KeyHasher.alike c.self.inside.hasher) done.0 c.self.inside.table c.self.inside.len some c.self.invariant)

pub returns-clause-ok : goal.returns-clause-ok
returns-clause-ok g c =
    let some : 0 < length c.self.inside.table = rw (← c.self.view_is) at c.requires.table in
    let done = c.in_ok-enlarge.ensures.ok in
    rw (← c.self.view_is, done.2, map_of_pairs-after g.met.K.Ord.total (g.S.KeyHasher.hash_of c.self.inside.hasher) (g.met.S.KeyHasher.alike c.self.inside.hasher) done.0 c.self.inside.table some c.self.invariant.placed)
    (ap (λ n. contents (map_of_pairs g.K.Ord.cmp (all_pairs c.self.inside.table)) n c.self.inside.hasher) (length-after done.0 c.self.inside.table ∙ sym done.1))
