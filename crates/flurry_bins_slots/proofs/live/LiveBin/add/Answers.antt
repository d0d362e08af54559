use Rattle.std.proofs.Common.{ap, sym, ◌∙◌}
use Rattle.std.proofs.lemmas.List.{length-map}
use Rattle.std.specs.Arc.{arc_value}
use Rattle.flurry_bins.specs.Chain.{entry_of}
use Rattle.flurry_bins.specs.Bin.{entries_of_bin, is_tree}
use Rattle.flurry_bins.specs.Entries.{entry_at}
use Rattle.flurry_bins.specs.PlainEntries.{numbered_pair}
use Rattle.flurry_base.specs.BinSizes.{asks_for_growth}
use Rattle.flurry_bins_slots.proofs.LiveLaws.{live_found, live_added}
use Rattle.flurry_base.proofs.OptionLaws.{none_mapped}
use Rattle.flurry_bins_slots.proofs.live.LiveBin.add.Goals as goal

pub put_node_in_bin-requires-clause-absent : goal.put_node_in_bin-requires-clause-absent
put_node_in_bin-requires-clause-absent g c =
    let x = entry_of c.args.node.value in
    let here = live_found c.self.inside.bin c.self.inside.writes x.hash (arc_value x.key) in
    none_mapped numbered_pair (entry_at g.K.Ord.cmp x.hash (arc_value x.key) (entries_of_bin c.self.inside.bin)) (rw (← c.self.view_is, here) at c.requires.absent)

pub put_node_in_bin-requires-clause-room : goal.put_node_in_bin-requires-clause-room
put_node_in_bin-requires-clause-room g c = rw (← c.self.view_is, length-map) at c.requires.room

pub returns-clause-asks : goal.returns-clause-asks
returns-clause-asks g c =
    rw c.requires.absent
    (c.put_node_in_bin.ensures.asks ∙ rw (← c.self.view_is) (ap (asks_for_growth c.args.bins (is_tree c.self.inside.bin)) (sym (length-map (entries_of_bin c.self.inside.bin) numbered_pair))))

pub returns-clause-after : goal.returns-clause-after
returns-clause-after g c =
    let x = entry_of c.args.node.value in
    let here = live_found c.self.inside.bin c.self.inside.writes x.hash (arc_value x.key) in
    let none = none_mapped numbered_pair (entry_at g.K.Ord.cmp x.hash (arc_value x.key) (entries_of_bin c.self.inside.bin)) (rw (← c.self.view_is, here) at c.requires.absent) in
    rw (← c.self.view_is, c.saturating_add-self-inside.ensures)
    (live_added c.self.inside.bin c.self.inside.writes g.met.K.Ord.total c.put_node_in_bin.new.bin c.args.bins x (rw (← c.self.view_is) at c.requires.number) none c.put_node_in_bin.ensures.entries c.put_node_in_bin.ensures.kind)
