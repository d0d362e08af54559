use Rattle.std.proofs.Common.{◌≡◌, ◌-◌, is_some, cond, option_map, sym, ap, subst, ◌∙◌, refl, length-set}
use Rattle.flurry_seq.specs.Invariant.{IsTable}
use Rattle.flurry_seq.specs.Table.{pair_of, bins_without}
use Rattle.flurry_seq.proofs.TableLemmas.{at_map, IsTable-left_out, map_of_pairs-left_out, len_some}
use Rattle.flurry_seq.proofs.seq_map.SeqMap.take.Goals as goal

pub overflow_sub-self : goal.overflow_sub-self
overflow_sub-self g c =
    let hash : c.args.hash ≡ g.S.KeyHasher.hash_of c.self.inside.hasher (g.Q.Query.stands_for c.args.key) = c.requires ∙ ap (λ m. g.S.KeyHasher.hash_of m.hasher (g.Q.Query.stands_for c.args.key)) (sym c.self.view_is) in
    let found = rw hash at c.in-Some.ensures.entry in
    len_some g.met.K.Ord.total (g.S.KeyHasher.hash_of c.self.inside.hasher) (g.met.S.KeyHasher.alike c.self.inside.hasher) c.self.inside.table c.self.inside.len (g.Q.Query.stands_for c.args.key) _ c.self.invariant (sym found)

pub invariant_of-self : goal.invariant_of-self
invariant_of-self g c =
    let hash : c.args.hash ≡ g.S.KeyHasher.hash_of c.self.inside.hasher (g.Q.Query.stands_for c.args.key) = c.requires ∙ ap (λ m. g.S.KeyHasher.hash_of m.hasher (g.Q.Query.stands_for c.args.key)) (sym c.self.view_is) in
    let found = rw hash at c.in-Some.ensures.entry in
    let rest = rw hash at c.in-Some.ensures.after in
    rw rest
    (subst (λ w. IsTable g.K.Ord.cmp (g.S.KeyHasher.hash_of c.self.inside.hasher) (bins_without g.K.Ord.cmp c.self.inside.table ((g.S.KeyHasher.hash_of c.self.inside.hasher) (g.Q.Query.stands_for c.args.key)) (g.Q.Query.stands_for c.args.key)) (cond (is_some w) (c.self.inside.len - 1) c.self.inside.len)) (sym found)
    (IsTable-left_out g.met.K.Ord.total (g.S.KeyHasher.hash_of c.self.inside.hasher) (g.met.S.KeyHasher.alike c.self.inside.hasher) c.self.inside.table c.self.inside.len (g.Q.Query.stands_for c.args.key) c.self.invariant))

pub invariant_of-self-in-None : goal.invariant_of-self-in-None
invariant_of-self-in-None g c =
    let hash : c.args.hash ≡ g.S.KeyHasher.hash_of c.self.inside.hasher (g.Q.Query.stands_for c.args.key) = c.requires ∙ ap (λ m. g.S.KeyHasher.hash_of m.hasher (g.Q.Query.stands_for c.args.key)) (sym c.self.view_is) in
    let found = rw hash at c.in-None.ensures.entry in
    let rest = rw hash at c.in-None.ensures.after in
    rw rest
    (subst (λ w. IsTable g.K.Ord.cmp (g.S.KeyHasher.hash_of c.self.inside.hasher) (bins_without g.K.Ord.cmp c.self.inside.table ((g.S.KeyHasher.hash_of c.self.inside.hasher) (g.Q.Query.stands_for c.args.key)) (g.Q.Query.stands_for c.args.key)) (cond (is_some w) (c.self.inside.len - 1) c.self.inside.len)) (sym found)
    (IsTable-left_out g.met.K.Ord.total (g.S.KeyHasher.hash_of c.self.inside.hasher) (g.met.S.KeyHasher.alike c.self.inside.hasher) c.self.inside.table c.self.inside.len (g.Q.Query.stands_for c.args.key) c.self.invariant))

pub returns-in-Some-clause-pair : goal.returns-in-Some-clause-pair
returns-in-Some-clause-pair g c =
    let hash : c.args.hash ≡ g.S.KeyHasher.hash_of c.self.inside.hasher (g.Q.Query.stands_for c.args.key) = c.requires ∙ ap (λ m. g.S.KeyHasher.hash_of m.hasher (g.Q.Query.stands_for c.args.key)) (sym c.self.view_is) in
    let found = rw hash at c.in-Some.ensures.entry in
    let rest = rw hash at c.in-Some.ensures.after in
    rw (← c.self.view_is)
    (ap (option_map pair_of) found ∙ sym (at_map g.met.K.Ord.total (g.S.KeyHasher.hash_of c.self.inside.hasher) (g.met.S.KeyHasher.alike c.self.inside.hasher) c.self.inside.table (g.Q.Query.stands_for c.args.key) c.self.invariant.placed))

pub returns-in-Some-clause-after : goal.returns-in-Some-clause-after
returns-in-Some-clause-after g c =
    let hash : c.args.hash ≡ g.S.KeyHasher.hash_of c.self.inside.hasher (g.Q.Query.stands_for c.args.key) = c.requires ∙ ap (λ m. g.S.KeyHasher.hash_of m.hasher (g.Q.Query.stands_for c.args.key)) (sym c.self.view_is) in
    let found = rw hash at c.in-Some.ensures.entry in
    let rest = rw hash at c.in-Some.ensures.after in
    rw (← c.self.view_is, rest, map_of_pairs-left_out g.met.K.Ord.total (g.S.KeyHasher.hash_of c.self.inside.hasher) (g.met.S.KeyHasher.alike c.self.inside.hasher) c.self.inside.table (g.Q.Query.stands_for c.args.key) c.self.invariant.placed)
    (rw length-set refl)

pub returns-in-None-clause-pair : goal.returns-in-None-clause-pair
returns-in-None-clause-pair g c =
    let hash : c.args.hash ≡ g.S.KeyHasher.hash_of c.self.inside.hasher (g.Q.Query.stands_for c.args.key) = c.requires ∙ ap (λ m. g.S.KeyHasher.hash_of m.hasher (g.Q.Query.stands_for c.args.key)) (sym c.self.view_is) in
    let found = rw hash at c.in-None.ensures.entry in
    let rest = rw hash at c.in-None.ensures.after in
    rw (← c.self.view_is)
    (ap (option_map pair_of) found ∙ sym (at_map g.met.K.Ord.total (g.S.KeyHasher.hash_of c.self.inside.hasher) (g.met.S.KeyHasher.alike c.self.inside.hasher) c.self.inside.table (g.Q.Query.stands_for c.args.key) c.self.invariant.placed))

pub returns-in-None-clause-after : goal.returns-in-None-clause-after
returns-in-None-clause-after g c =
    let hash : c.args.hash ≡ g.S.KeyHasher.hash_of c.self.inside.hasher (g.Q.Query.stands_for c.args.key) = c.requires ∙ ap (λ m. g.S.KeyHasher.hash_of m.hasher (g.Q.Query.stands_for c.args.key)) (sym c.self.view_is) in
    let found = rw hash at c.in-None.ensures.entry in
    let rest = rw hash at c.in-None.ensures.after in
    rw (← c.self.view_is, rest, map_of_pairs-left_out g.met.K.Ord.total (g.S.KeyHasher.hash_of c.self.inside.hasher) (g.met.S.KeyHasher.alike c.self.inside.hasher) c.self.inside.table (g.Q.Query.stands_for c.args.key) c.self.invariant.placed)
    (rw length-set refl)
