use Rattle.std.proofs.Common.{◌≡◌, length, sym, ap}
use Rattle.flurry_seq.specs.Contents.{contents}
use Rattle.flurry_seq.proofs.GrowthLemmas.{IsTable-empty, all_pairs-empty, map_of_pairs-none, len-none, length-empty}
use Rattle.flurry_seq.proofs.seq_map.SeqMap.begin.Goals as goal

pub invariant_of-self-2 : goal.invariant_of-self-2
invariant_of-self-2 g c =
    let no : length c.self.inside.table ≡ 0 = rw (← c.self.view_is) at c.requires.none in
    rw (c.in_ok-begin.ensures.ok, len-none g.K.Ord.cmp (g.S.KeyHasher.hash_of c.self.inside.hasher) c.self.inside.table c.self.inside.len no c.self.invariant) (IsTable-empty g.row.V.Denot g.K.Ord.cmp (g.S.KeyHasher.hash_of c.self.inside.hasher) c.args.bins)

pub returns-clause-ok : goal.returns-clause-ok
returns-clause-ok g c =
    let no : length c.self.inside.table ≡ 0 = rw (← c.self.view_is) at c.requires.none in
    rw (c.in_ok-begin.ensures.ok, ← c.self.view_is, all_pairs-empty g.row.V.Denot g.K.Ord.cmp (g.S.KeyHasher.hash_of c.self.inside.hasher) c.args.bins, length-empty g.row.V.Denot g.K.Ord.cmp (g.S.KeyHasher.hash_of c.self.inside.hasher) c.args.bins)
    (ap (λ m. contents m c.args.bins c.self.inside.hasher) (sym (map_of_pairs-none g.K.Ord.cmp c.self.inside.table no)))
