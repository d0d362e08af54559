use Rattle.std.proofs.Common.{◌≡◌, is_some, true, option_map, sym, ap, ◌∙◌, refl}
use Rattle.std.proofs.Common.{length-set}
use Rattle.std.specs.Arc.{arc_value}
use Rattle.flurry_seq.specs.Table.{entry_in}
use Rattle.flurry_seq.proofs.TableLemmas.{at_map, map_of_pairs-with, found_same}
use Rattle.flurry_seq.proofs.GrowthLemmas.{IsTable-replaced, value_of_entry, some_bins, is_some_true, IsSome_true}
use Rattle.flurry_seq.proofs.seq_map.SeqMap.swap_value.Goals as goal

pub replace-requires : goal.replace-requires
replace-requires g c =
    let hash : c.args.hash ≡ g.S.KeyHasher.hash_of c.self.inside.hasher (g.Q.Query.stands_for c.args.key) = c.requires.hash ∙ ap (λ m. g.S.KeyHasher.hash_of m.hasher (g.Q.Query.stands_for c.args.key)) (sym c.self.view_is) in
    let here : is_some (entry_in g.K.Ord.cmp c.self.inside.table ((g.S.KeyHasher.hash_of c.self.inside.hasher) (g.Q.Query.stands_for c.args.key)) (g.Q.Query.stands_for c.args.key)) ≡ true = sym (found_same g.met.K.Ord.total (g.S.KeyHasher.hash_of c.self.inside.hasher) (g.met.S.KeyHasher.alike c.self.inside.hasher) c.self.inside.table (g.Q.Query.stands_for c.args.key) c.self.invariant.placed) ∙ is_some_true _ (rw (← c.self.view_is) at c.requires.present) in
    rw hash (IsSome_true _ here)

pub invariant_of-self : goal.invariant_of-self
invariant_of-self g c =
    let hash : c.args.hash ≡ g.S.KeyHasher.hash_of c.self.inside.hasher (g.Q.Query.stands_for c.args.key) = c.requires.hash ∙ ap (λ m. g.S.KeyHasher.hash_of m.hasher (g.Q.Query.stands_for c.args.key)) (sym c.self.view_is) in
    let here : is_some (entry_in g.K.Ord.cmp c.self.inside.table ((g.S.KeyHasher.hash_of c.self.inside.hasher) (g.Q.Query.stands_for c.args.key)) (g.Q.Query.stands_for c.args.key)) ≡ true = sym (found_same g.met.K.Ord.total (g.S.KeyHasher.hash_of c.self.inside.hasher) (g.met.S.KeyHasher.alike c.self.inside.hasher) c.self.inside.table (g.Q.Query.stands_for c.args.key) c.self.invariant.placed) ∙ is_some_true _ (rw (← c.self.view_is) at c.requires.present) in
    let new = rw hash at c.replace.ensures.after in
    rw new (IsTable-replaced g.met.K.Ord.total (g.S.KeyHasher.hash_of c.self.inside.hasher) (g.met.S.KeyHasher.alike c.self.inside.hasher) c.self.inside.table c.self.inside.len (g.Q.Query.stands_for c.args.key) (arc_value c.args.value) here c.self.invariant)

pub returns-clause-old : goal.returns-clause-old
returns-clause-old g c =
    let hash : c.args.hash ≡ g.S.KeyHasher.hash_of c.self.inside.hasher (g.Q.Query.stands_for c.args.key) = c.requires.hash ∙ ap (λ m. g.S.KeyHasher.hash_of m.hasher (g.Q.Query.stands_for c.args.key)) (sym c.self.view_is) in
    let old = rw hash at c.replace.ensures.old in
    rw (← c.self.view_is)
    (ap (option_map (λ p. p.1)) (at_map g.met.K.Ord.total (g.S.KeyHasher.hash_of c.self.inside.hasher) (g.met.S.KeyHasher.alike c.self.inside.hasher) c.self.inside.table (g.Q.Query.stands_for c.args.key) c.self.invariant.placed) ∙ value_of_entry _ ∙ old)

pub returns-clause-after : goal.returns-clause-after
returns-clause-after g c =
    let hash : c.args.hash ≡ g.S.KeyHasher.hash_of c.self.inside.hasher (g.Q.Query.stands_for c.args.key) = c.requires.hash ∙ ap (λ m. g.S.KeyHasher.hash_of m.hasher (g.Q.Query.stands_for c.args.key)) (sym c.self.view_is) in
    let here : is_some (entry_in g.K.Ord.cmp c.self.inside.table ((g.S.KeyHasher.hash_of c.self.inside.hasher) (g.Q.Query.stands_for c.args.key)) (g.Q.Query.stands_for c.args.key)) ≡ true = sym (found_same g.met.K.Ord.total (g.S.KeyHasher.hash_of c.self.inside.hasher) (g.met.S.KeyHasher.alike c.self.inside.hasher) c.self.inside.table (g.Q.Query.stands_for c.args.key) c.self.invariant.placed) ∙ is_some_true _ (rw (← c.self.view_is) at c.requires.present) in
    let new = rw hash at c.replace.ensures.after in
    rw (← c.self.view_is, new, map_of_pairs-with g.met.K.Ord.total (g.S.KeyHasher.hash_of c.self.inside.hasher) (g.met.S.KeyHasher.alike c.self.inside.hasher) c.self.inside.table (g.Q.Query.stands_for c.args.key) (arc_value c.args.value) (some_bins g.K.Ord.cmp c.self.inside.table ((g.S.KeyHasher.hash_of c.self.inside.hasher) (g.Q.Query.stands_for c.args.key)) (g.Q.Query.stands_for c.args.key) here) c.self.invariant.placed)
    (rw length-set refl)
