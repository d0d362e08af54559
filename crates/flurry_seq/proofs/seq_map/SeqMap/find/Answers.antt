use Rattle.std.proofs.Common.{◌≡◌, option_map, sym, ap, ◌∙◌}
use Rattle.flurry_seq.specs.Table.{pair_of}
use Rattle.flurry_seq.proofs.TableLemmas.{at_map, pairs_mapped}
use Rattle.flurry_seq.proofs.seq_map.SeqMap.find.Goals as goal

pub returns : goal.returns
returns g c =
    let hash : c.args.hash ≡ g.S.KeyHasher.hash_of c.self.inside.hasher (g.Q.Query.stands_for c.args.key) = c.requires ∙ ap (λ m. g.S.KeyHasher.hash_of m.hasher (g.Q.Query.stands_for c.args.key)) (sym c.self.view_is) in
    pairs_mapped c.find.result ∙ ap (option_map pair_of) (rw hash at c.find.ensures)
    ∙ rw (← c.self.view_is) (sym (at_map g.met.K.Ord.total (g.S.KeyHasher.hash_of c.self.inside.hasher) (g.met.S.KeyHasher.alike c.self.inside.hasher) c.self.inside.table (g.Q.Query.stands_for c.args.key) c.self.invariant.placed))
