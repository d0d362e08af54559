use Rattle.std.proofs.Common.{◌≡◌, ◌<◌, length, lit≤, refl, inr, sym, ap, ◌∙◌, None, arith}
use Rattle.std.proofs.Common.{length-set}
use Rattle.std.specs.Arc.{arc_value}
use Rattle.flurry_bins.specs.Chain.{entry_of}
use Rattle.flurry_base.specs.FiniteMap.{map_of_pairs, pair_at, with_pair}
use Rattle.flurry_seq.specs.Table.{all_pairs, entry_in}
use Rattle.flurry_seq.proofs.TableLemmas.{map_of_pairs-with}
use Rattle.flurry_seq.proofs.GrowthLemmas.{IsTable-added, entry_absent, first_some}
use Rattle.flurry_seq.proofs.IterLaws.{bin_short}
use Rattle.flurry_seq.proofs.seq_map.SeqMap.put.Goals as goal
use Rattle.flurry_base.specs.declared.sizes.TheConstants.{FIRST_BINS, MAX_LEN}

pub ensure_table-requires : goal.ensure_table-requires
ensure_table-requires g c = inr (4, lit≤ tt, refl)

pub put-asks-requires-clause-table : goal.put-asks-requires-clause-table
put-asks-requires-clause-table g c =
    let is = c.self-2.view_is ∙ c.in_ok-ensure_table.ensures.ok in
    rw (ap (λ m. m.bins) is) (first_some c.args.self.now.bins FIRST_BINS (omega arith))

pub put-asks-requires-clause-room : goal.put-asks-requires-clause-room
put-asks-requires-clause-room g c =
    let node = entry_of c.args.node.value in
    let key = arc_value node.key in
    let is = c.self-2.view_is ∙ c.in_ok-ensure_table.ensures.ok in
    let same : map_of_pairs g.K.Ord.cmp (all_pairs c.self-2.inside.table) ≡ c.args.self.now.pairs = ap (λ m. m.pairs) is in
    let hash : node.hash ≡ g.S.KeyHasher.hash_of c.self-2.inside.hasher key = c.requires.hash ∙ ap (λ m. g.S.KeyHasher.hash_of m.hasher key) (sym is) in
    let less : c.self-2.inside.len < MAX_LEN = omega (arith, c.self-2.invariant.count, ap length same, c.self.invariant.count, ap (λ m. length m.pairs) c.self.view_is, c.self.invariant.few, c.if-self-eq-MAX_LEN.false) in
    omega (arith, bin_short g.met.K.Ord.total (g.S.KeyHasher.hash_of c.self-2.inside.hasher) (g.met.S.KeyHasher.alike c.self-2.inside.hasher) c.self-2.inside.table c.self-2.inside.len node.hash c.self-2.invariant)

pub put-asks-requires-clause-absent : goal.put-asks-requires-clause-absent
put-asks-requires-clause-absent g c =
    let node = entry_of c.args.node.value in
    let key = arc_value node.key in
    let is = c.self-2.view_is ∙ c.in_ok-ensure_table.ensures.ok in
    let same : map_of_pairs g.K.Ord.cmp (all_pairs c.self-2.inside.table) ≡ c.args.self.now.pairs = ap (λ m. m.pairs) is in
    let hash : node.hash ≡ g.S.KeyHasher.hash_of c.self-2.inside.hasher key = c.requires.hash ∙ ap (λ m. g.S.KeyHasher.hash_of m.hasher key) (sym is) in
    let absent : entry_in g.K.Ord.cmp c.self-2.inside.table (g.S.KeyHasher.hash_of c.self-2.inside.hasher key) key ≡ None =
    entry_absent g.met.K.Ord.total (g.S.KeyHasher.hash_of c.self-2.inside.hasher) (g.met.S.KeyHasher.alike c.self-2.inside.hasher) c.self-2.inside.table c.self-2.inside.len key c.self-2.invariant (ap (λ m. pair_at g.K.Ord.cmp m key) same ∙ c.requires.absent) in
    rw hash absent

pub invariant_of-self : goal.invariant_of-self
invariant_of-self g c =
    let node = entry_of c.args.node.value in
    let key = arc_value node.key in
    let is = c.self-2.view_is ∙ c.in_ok-ensure_table.ensures.ok in
    let same : map_of_pairs g.K.Ord.cmp (all_pairs c.self-2.inside.table) ≡ c.args.self.now.pairs = ap (λ m. m.pairs) is in
    let hash : node.hash ≡ g.S.KeyHasher.hash_of c.self-2.inside.hasher key = c.requires.hash ∙ ap (λ m. g.S.KeyHasher.hash_of m.hasher key) (sym is) in
    let absent : entry_in g.K.Ord.cmp c.self-2.inside.table (g.S.KeyHasher.hash_of c.self-2.inside.hasher key) key ≡ None =
    entry_absent g.met.K.Ord.total (g.S.KeyHasher.hash_of c.self-2.inside.hasher) (g.met.S.KeyHasher.alike c.self-2.inside.hasher) c.self-2.inside.table c.self-2.inside.len key c.self-2.invariant (ap (λ m. pair_at g.K.Ord.cmp m key) same ∙ c.requires.absent) in
    let some : 0 < length c.self-2.inside.table = rw (ap (λ m. m.bins) is) (first_some c.args.self.now.bins FIRST_BINS (omega arith)) in
    let less : c.self-2.inside.len < MAX_LEN = omega (arith, c.self-2.invariant.count, ap length same, c.self.invariant.count, ap (λ m. length m.pairs) c.self.view_is, c.self.invariant.few, c.if-self-eq-MAX_LEN.false) in
    rw (c.put-asks.ensures.after, hash)
    (IsTable-added g.met.K.Ord.total (g.S.KeyHasher.hash_of c.self-2.inside.hasher) (g.met.S.KeyHasher.alike c.self-2.inside.hasher) c.self-2.inside.table c.self-2.inside.len key (arc_value node.value) some absent less c.self-2.invariant)

pub returns-clause-pairs : goal.returns-clause-pairs
returns-clause-pairs g c =
    let node = entry_of c.args.node.value in
    let key = arc_value node.key in
    let is = c.self-2.view_is ∙ c.in_ok-ensure_table.ensures.ok in
    let same : map_of_pairs g.K.Ord.cmp (all_pairs c.self-2.inside.table) ≡ c.args.self.now.pairs = ap (λ m. m.pairs) is in
    let hash : node.hash ≡ g.S.KeyHasher.hash_of c.self-2.inside.hasher key = c.requires.hash ∙ ap (λ m. g.S.KeyHasher.hash_of m.hasher key) (sym is) in
    let some : 0 < length c.self-2.inside.table = rw (ap (λ m. m.bins) is) (first_some c.args.self.now.bins FIRST_BINS (omega arith)) in
    rw (c.put-asks.ensures.after, hash)
    (map_of_pairs-with g.met.K.Ord.total (g.S.KeyHasher.hash_of c.self-2.inside.hasher) (g.met.S.KeyHasher.alike c.self-2.inside.hasher) c.self-2.inside.table key (arc_value node.value) some c.self-2.invariant.placed
    ∙ ap (λ m. with_pair g.K.Ord.cmp m key (arc_value node.value)) same)

pub returns-clause-bins : goal.returns-clause-bins
returns-clause-bins g c = rw (c.put-asks.ensures.after, length-set) (ap (λ m. m.bins) (c.self-2.view_is ∙ c.in_ok-ensure_table.ensures.ok))

pub returns-clause-asks : goal.returns-clause-asks
returns-clause-asks g c = λ yes.
    let asked = c.put-asks.ensures.asks yes in
    let count = (invariant_of-self g c).count in
    let short = bin_short g.met.K.Ord.total (g.S.KeyHasher.hash_of c.self-2.inside.hasher) (g.met.S.KeyHasher.alike c.self-2.inside.hasher) c.self-2.inside.table c.self-2.inside.len (entry_of c.args.node.value).hash c.self-2.invariant in
    (rw (c.put-asks.ensures.after, length-set) asked.0, omega (arith, asked.1, short, count))
