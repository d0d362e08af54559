use Rattle.std.proofs.Common.{◌≡◌, ◌<◌, is_some, length, length-set, option_map, sym, ap, ◌∙◌, arith}
use Rattle.std.specs.Arc.{arc_value}
use Rattle.flurry_base.specs.FiniteMap.{with_pair}
use Rattle.flurry_seq.specs.Table.{entry_in}
use Rattle.flurry_seq.proofs.TableLemmas.{at_map, map_of_pairs-with, some_map}
use Rattle.flurry_seq.proofs.GrowthLemmas.{IsTable-added, IsTable-replaced, none_from_test, value_of_entry}
use Rattle.flurry_seq.proofs.IterLaws.{bin_short}
use Rattle.flurry_seq.proofs.seq_map.SeqMap.insert_pair_in_bin.Goals as goal
use Rattle.flurry_base.specs.declared.sizes.TheConstants.{MAX_LEN}

pub insert-requires-clause-room : goal.insert-requires-clause-room
insert-requires-clause-room g c =
    let less : c.self.inside.len < MAX_LEN = omega (arith, c.self.invariant.count, ap (λ m. length m.pairs) c.self.view_is, c.requires.room) in
    omega (arith, less, bin_short g.met.K.Ord.total (g.S.KeyHasher.hash_of c.self.inside.hasher) (g.met.S.KeyHasher.alike c.self.inside.hasher) c.self.inside.table c.self.inside.len c.args.hash c.self.invariant)

pub invariant_of-self-in-Some-default : goal.invariant_of-self-in-Some-default
invariant_of-self-in-Some-default g c =
    let hash : c.args.hash ≡ g.S.KeyHasher.hash_of c.self.inside.hasher c.args.key = c.requires.hash ∙ ap (λ m. g.S.KeyHasher.hash_of m.hasher c.args.key) (sym c.self.view_is) in
    let old = rw hash at c.in_ok-old.ensures.old in
    let seen : is_some c.in_ok-old.field-0.0 ≡ is_some (entry_in g.K.Ord.cmp c.self.inside.table (g.S.KeyHasher.hash_of c.self.inside.hasher c.args.key) c.args.key) = sym (some_map arc_value c.in_ok-old.field-0.0) ∙ ap is_some old ∙ some_map (λ e. e.1) _ in
    rw (c.in_ok-old.ensures.after, hash) (IsTable-replaced g.met.K.Ord.total (g.S.KeyHasher.hash_of c.self.inside.hasher) (g.met.S.KeyHasher.alike c.self.inside.hasher) c.self.inside.table c.self.inside.len c.args.key (arc_value c.args.value) (sym seen ∙ ap is_some c.in-Some-default.is-0) c.self.invariant)

pub invariant_of-self-in-None-default : goal.invariant_of-self-in-None-default
invariant_of-self-in-None-default g c =
    let hash : c.args.hash ≡ g.S.KeyHasher.hash_of c.self.inside.hasher c.args.key = c.requires.hash ∙ ap (λ m. g.S.KeyHasher.hash_of m.hasher c.args.key) (sym c.self.view_is) in
    let some : 0 < length c.self.inside.table = rw (ap (λ m. m.bins) c.self.view_is) c.requires.table in
    let less : c.self.inside.len < MAX_LEN = omega (arith, c.self.invariant.count, ap (λ m. length m.pairs) c.self.view_is, c.requires.room) in
    let old = rw hash at c.in_ok-old.ensures.old in
    let seen : is_some c.in_ok-old.field-0.0 ≡ is_some (entry_in g.K.Ord.cmp c.self.inside.table (g.S.KeyHasher.hash_of c.self.inside.hasher c.args.key) c.args.key) = sym (some_map arc_value c.in_ok-old.field-0.0) ∙ ap is_some old ∙ some_map (λ e. e.1) _ in
    let absent = none_from_test (entry_in g.K.Ord.cmp c.self.inside.table (g.S.KeyHasher.hash_of c.self.inside.hasher c.args.key) c.args.key) (sym seen ∙ ap is_some c.in-None-default.is-0) in
    rw (c.in_ok-old.ensures.after, hash) (IsTable-added g.met.K.Ord.total (g.S.KeyHasher.hash_of c.self.inside.hasher) (g.met.S.KeyHasher.alike c.self.inside.hasher) c.self.inside.table c.self.inside.len c.args.key (arc_value c.args.value) some absent less c.self.invariant)

pub grow-requires-clause-asks : goal.grow-requires-clause-asks
grow-requires-clause-asks g c = λ yes.
    let asked = c.in_ok-old.ensures.asks yes in
    let hash : c.args.hash ≡ g.S.KeyHasher.hash_of c.self.inside.hasher c.args.key = c.requires.hash ∙ ap (λ m. g.S.KeyHasher.hash_of m.hasher c.args.key) (sym c.self.view_is) in
    let some : 0 < length c.self.inside.table = rw (ap (λ m. m.bins) c.self.view_is) c.requires.table in
    let less : c.self.inside.len < MAX_LEN = omega (arith, c.self.invariant.count, ap (λ m. length m.pairs) c.self.view_is, c.requires.room) in
    let old = rw hash at c.in_ok-old.ensures.old in
    let seen : is_some c.in_ok-old.field-0.0 ≡ is_some (entry_in g.K.Ord.cmp c.self.inside.table (g.S.KeyHasher.hash_of c.self.inside.hasher c.args.key) c.args.key) = sym (some_map arc_value c.in_ok-old.field-0.0) ∙ ap is_some old ∙ some_map (λ e. e.1) _ in
    let absent = none_from_test (entry_in g.K.Ord.cmp c.self.inside.table (g.S.KeyHasher.hash_of c.self.inside.hasher c.args.key) c.args.key) (sym seen ∙ ap is_some c.in-None-default.is-0) in
    let added = IsTable-added g.met.K.Ord.total (g.S.KeyHasher.hash_of c.self.inside.hasher) (g.met.S.KeyHasher.alike c.self.inside.hasher) c.self.inside.table c.self.inside.len c.args.key (arc_value c.args.value) some absent less c.self.invariant in
    let short = bin_short g.met.K.Ord.total (g.S.KeyHasher.hash_of c.self.inside.hasher) (g.met.S.KeyHasher.alike c.self.inside.hasher) c.self.inside.table c.self.inside.len c.args.hash c.self.invariant in
    (rw (c.in_ok-old.ensures.after, length-set) asked.0, rw (c.in_ok-old.ensures.after, hash) (omega (arith, asked.1, short, added.count)))

pub returns-in-Some-default-clause-old : goal.returns-in-Some-default-clause-old
returns-in-Some-default-clause-old g c =
    let hash : c.args.hash ≡ g.S.KeyHasher.hash_of c.self.inside.hasher c.args.key = c.requires.hash ∙ ap (λ m. g.S.KeyHasher.hash_of m.hasher c.args.key) (sym c.self.view_is) in
    let old = rw hash at c.in_ok-old.ensures.old in
    rw (c.in-Some-default.old-is, ← c.self.view_is) (ap (option_map arc_value) (sym c.in-Some-default.is-0) ∙ old ∙ (sym (ap (option_map (λ p. p.1)) (at_map g.met.K.Ord.total (g.S.KeyHasher.hash_of c.self.inside.hasher) (g.met.S.KeyHasher.alike c.self.inside.hasher) c.self.inside.table c.args.key c.self.invariant.placed) ∙ value_of_entry _)))

pub returns-in-Some-default-clause-pairs : goal.returns-in-Some-default-clause-pairs
returns-in-Some-default-clause-pairs g c =
    let hash : c.args.hash ≡ g.S.KeyHasher.hash_of c.self.inside.hasher c.args.key = c.requires.hash ∙ ap (λ m. g.S.KeyHasher.hash_of m.hasher c.args.key) (sym c.self.view_is) in
    let some : 0 < length c.self.inside.table = rw (ap (λ m. m.bins) c.self.view_is) c.requires.table in
    rw (c.in_ok-old.ensures.after, hash) (map_of_pairs-with g.met.K.Ord.total (g.S.KeyHasher.hash_of c.self.inside.hasher) (g.met.S.KeyHasher.alike c.self.inside.hasher) c.self.inside.table c.args.key (arc_value c.args.value) some c.self.invariant.placed ∙ ap (λ m. with_pair g.K.Ord.cmp m.pairs c.args.key (arc_value c.args.value)) c.self.view_is)

pub returns-in-None-default-clause-old : goal.returns-in-None-default-clause-old
returns-in-None-default-clause-old g c =
    let hash : c.args.hash ≡ g.S.KeyHasher.hash_of c.self.inside.hasher c.args.key = c.requires.hash ∙ ap (λ m. g.S.KeyHasher.hash_of m.hasher c.args.key) (sym c.self.view_is) in
    let old = rw hash at c.in_ok-old.ensures.old in
    rw (← c.self.view_is) (ap (option_map arc_value) (sym c.in-None-default.is-0) ∙ old ∙ (sym (ap (option_map (λ p. p.1)) (at_map g.met.K.Ord.total (g.S.KeyHasher.hash_of c.self.inside.hasher) (g.met.S.KeyHasher.alike c.self.inside.hasher) c.self.inside.table c.args.key c.self.invariant.placed) ∙ value_of_entry _)))

pub returns-in-None-default-clause-pairs : goal.returns-in-None-default-clause-pairs
returns-in-None-default-clause-pairs g c =
    let hash : c.args.hash ≡ g.S.KeyHasher.hash_of c.self.inside.hasher c.args.key = c.requires.hash ∙ ap (λ m. g.S.KeyHasher.hash_of m.hasher c.args.key) (sym c.self.view_is) in
    let some : 0 < length c.self.inside.table = rw (ap (λ m. m.bins) c.self.view_is) c.requires.table in
    rw (c.grow.ensures.same.0, c.in_ok-old.ensures.after, hash) (map_of_pairs-with g.met.K.Ord.total (g.S.KeyHasher.hash_of c.self.inside.hasher) (g.met.S.KeyHasher.alike c.self.inside.hasher) c.self.inside.table c.args.key (arc_value c.args.value) some c.self.invariant.placed ∙ ap (λ m. with_pair g.K.Ord.cmp m.pairs c.args.key (arc_value c.args.value)) c.self.view_is)
