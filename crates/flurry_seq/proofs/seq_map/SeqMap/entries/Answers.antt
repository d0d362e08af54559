use Rattle.std.proofs.Common.{length, sym, ap, ◌∙◌}
use Rattle.std.proofs.lemmas.List.{length-map}
use Rattle.std.proofs.lemmas.List.Sorted.{length_permutation}
use Rattle.flurry_base.specs.FiniteMap.{map_of_pairs}
use Rattle.flurry_seq.specs.Table.{pair_of, all_pairs, all_entries}
use Rattle.flurry_seq.proofs.IterLaws.{pairs_permute, all_apart}
use Rattle.flurry_seq.proofs.RemainingLemmas.{all_pairs-of_entries, all_hashed}
use Rattle.flurry_seq.proofs.seq_map.SeqMap.entries.Goals as goal

pub new-requires : goal.new-requires
new-requires g c =
    let m = map_of_pairs g.K.Ord.cmp (all_pairs c.self.inside.table) in
    let same = pairs_permute g.met.K.Ord.total (g.S.KeyHasher.hash_of c.self.inside.hasher) (g.met.S.KeyHasher.alike c.self.inside.hasher) c.self.inside.table c.self.invariant.placed in
    c.len.ensures.pairs
    ∙ rw (← c.self.view_is, c.bins.ensures)
    (sym (length_permutation m (all_pairs c.self.inside.table) same) ∙ ap length (sym (all_pairs-of_entries c.self.inside.table)) ∙ length-map (all_entries c.self.inside.table) pair_of)

pub returns-clause-pairs : goal.returns-clause-pairs
returns-clause-pairs g c = rw (← c.self.view_is, c.new.ensures, c.bins.ensures) (ap (map_of_pairs g.K.Ord.cmp) (all_pairs-of_entries c.self.inside.table))

pub returns-clause-apart : goal.returns-clause-apart
returns-clause-apart g c =
    rw (c.new.ensures, c.bins.ensures, all_pairs-of_entries c.self.inside.table)
    (all_apart g.met.K.Ord.total (g.S.KeyHasher.hash_of c.self.inside.hasher) (g.met.S.KeyHasher.alike c.self.inside.hasher) (length c.self.inside.table) 0 c.self.inside.table c.self.invariant.placed)

pub returns-clause-hashed : goal.returns-clause-hashed
returns-clause-hashed g c =
    rw (← c.self.view_is, c.new.ensures, c.bins.ensures)
    (all_hashed g.K.Ord.cmp (g.S.KeyHasher.hash_of c.self.inside.hasher) (length c.self.inside.table) 0 c.self.inside.table c.self.invariant.placed)

pub returns-clause-permuted : goal.returns-clause-permuted
returns-clause-permuted g c =
    rw (← c.self.view_is, c.new.ensures, c.bins.ensures, all_pairs-of_entries c.self.inside.table)
    (pairs_permute g.met.K.Ord.total (g.S.KeyHasher.hash_of c.self.inside.hasher) (g.met.S.KeyHasher.alike c.self.inside.hasher) c.self.inside.table c.self.invariant.placed)

pub returns-clause-count : goal.returns-clause-count
returns-clause-count g c =
    let m = map_of_pairs g.K.Ord.cmp (all_pairs c.self.inside.table) in
    let same = pairs_permute g.met.K.Ord.total (g.S.KeyHasher.hash_of c.self.inside.hasher) (g.met.S.KeyHasher.alike c.self.inside.hasher) c.self.inside.table c.self.invariant.placed in
    rw (← c.self.view_is, c.new.ensures, c.bins.ensures)
    (sym (length-map (all_entries c.self.inside.table) pair_of) ∙ ap length (all_pairs-of_entries c.self.inside.table) ∙ length_permutation m (all_pairs c.self.inside.table) same)
