use Rattle.std.proofs.Common.{◌≡◌, ◌<◌, length, refl, sym, ap, ◌∙◌, arith}
use Rattle.std.proofs.lemmas.List.{length-map}
use Rattle.std.specs.Arc.{arc_value}
use Rattle.flurry_bins.specs.Chain.{entry_of}
use Rattle.flurry_bins.specs.Bin.{entries_of_bin, is_tree}
use Rattle.flurry_bins.specs.Entries.{entry_at}
use Rattle.flurry_bins.specs.PlainEntries.{pair_of_entry}
use Rattle.flurry_seq.proofs.MapsOfBinsLemmas.{bin_here, entry_here, placed_here}
use Rattle.flurry_base.proofs.OptionLaws.{none_mapped}
use Rattle.flurry_seq.proofs.RoomLaws.{asks_true}
use Rattle.flurry_seq.specs.MapsOfBins.{maps_of_bins}
use Rattle.flurry_seq.specs.Table.{bin_at}
use Rattle.flurry_seq.proofs.NumberLemmas.{all_at, all_set, zero-with_entry}
use Rattle.std.proofs.Common.{length-set}
use Rattle.flurry_seq.proofs.table.Table.put.Goals as goal

pub put_node_in_bin-requires-clause-absent : goal.put_node_in_bin-requires-clause-absent
put_node_in_bin-requires-clause-absent g c =
    let at = rw (c.entry.ensures, c.deref.ensures) at c.place-at.ensures.place in
    let here = entry_here c.self.inside.bins.items (entry_of c.args.node.value).hash c.place-at.result c.index_mut-bin.result.now c.place-at.ensures.below c.index_mut-bin.ensures.value at (arc_value (entry_of c.args.node.value).key) in
    none_mapped pair_of_entry (entry_at g.K.Ord.cmp (entry_of c.args.node.value).hash (arc_value (entry_of c.args.node.value).key) (entries_of_bin c.index_mut-bin.result.now)) (rw (← c.self.view_is, here) at c.requires.absent)

pub put_node_in_bin-requires-clause-room : goal.put_node_in_bin-requires-clause-room
put_node_in_bin-requires-clause-room g c =
    let at = rw (c.entry.ensures, c.deref.ensures) at c.place-at.ensures.place in
    let here = bin_here c.self.inside.bins.items (entry_of c.args.node.value).hash c.place-at.result c.index_mut-bin.result.now c.place-at.ensures.below c.index_mut-bin.ensures.value at in
    rw (← c.self.view_is, here, length-map) at c.requires.room

pub returns-clause-after : goal.returns-clause-after
returns-clause-after g c =
    let at = rw (c.entry.ensures, c.deref.ensures) at c.place-at.ensures.place in
    let here = entry_here c.self.inside.bins.items (entry_of c.args.node.value).hash c.place-at.result c.index_mut-bin.result.now c.place-at.ensures.below c.index_mut-bin.ensures.value at (arc_value (entry_of c.args.node.value).key) in
    let absent = none_mapped pair_of_entry (entry_at g.K.Ord.cmp (entry_of c.args.node.value).hash (arc_value (entry_of c.args.node.value).key) (entries_of_bin c.index_mut-bin.result.now)) (rw (← c.self.view_is, here) at c.requires.absent) in
    rw (← c.self.view_is)
    (placed_here c.self.inside.bins.items (entry_of c.args.node.value).hash c.place-at.result c.index_mut-bin.result.now (entry_of c.args.node.value) c.put_node_in_bin.new.bin c.place-at.ensures.below c.index_mut-bin.ensures.value at
    g.met.K.Ord.total refl absent c.put_node_in_bin.ensures.entries)

pub invariant_of-self : goal.invariant_of-self
invariant_of-self g c =
    let b = c.index_mut-bin.result.now in
    let zero = all_at _ c.self.inside.bins.items c.place-at.result b c.place-at.ensures.below c.index_mut-bin.ensures.value c.self.invariant.1 in
    (rw length-set c.self.invariant.0, all_set _ c.self.inside.bins.items c.place-at.result c.put_node_in_bin.new.bin (rw c.put_node_in_bin.ensures.entries (zero-with_entry g.K.Ord.cmp (entry_of c.args.node.value) (entries_of_bin b) c.requires.number zero)) c.self.invariant.1)

pub returns-clause-asks : goal.returns-clause-asks
returns-clause-asks g c = λ yes.
    let xs = c.self.inside.bins.items in
    let hash = (entry_of c.args.node.value).hash in
    let b = c.index_mut-bin.result.now in
    let at = rw (c.entry.ensures, c.deref.ensures) at c.place-at.ensures.place in
    let here = bin_here xs hash c.place-at.result b c.place-at.ensures.below c.index_mut-bin.ensures.value at in
    let asked = asks_true c.len-count.result (length (entries_of_bin b)) (is_tree b) (sym c.put_node_in_bin.ensures.asks ∙ yes) in
    let few : length (maps_of_bins xs) < 64 = rw length-map (omega (arith, asked.0, c.len-count.ensures, c.self.inside.bins.ok.0)) in
    let eight : length (bin_at (maps_of_bins xs) hash) ≡ 8 = ap length here ∙ length-map (entries_of_bin b) pair_of_entry ∙ asked.1 in
    rw (← c.self.view_is) (few, eight)
