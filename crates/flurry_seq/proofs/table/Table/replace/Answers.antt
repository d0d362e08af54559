use Rattle.flurry_bins.specs.Bin.{entries_of_bin}
use Rattle.flurry_bins.specs.Entries.{entry_at}
use Rattle.flurry_bins.specs.PlainEntries.{pair_of_entry}
use Rattle.flurry_seq.proofs.MapsOfBinsLemmas.{entry_here, replaced_here, value_mapped, entry_some}
use Rattle.flurry_base.proofs.OptionLaws.{some_mapped}
use Rattle.flurry_seq.proofs.NumberLemmas.{all_at, all_set, zero-with_value_at}
use Rattle.std.proofs.Common.{length-set}
use Rattle.flurry_seq.proofs.table.Table.replace.Goals as goal

pub place-at-requires-clause-some : goal.place-at-requires-clause-some
place-at-requires-clause-some g c = entry_some c.self.inside.bins.items c.args.hash (g.Q.Query.stands_for c.args.key) (rw (← c.self.view_is) at c.requires)

pub write-requires : goal.write-requires
write-requires g c =
    let here = entry_here c.self.inside.bins.items c.args.hash c.place-at.result c.index_mut-bin.result.now c.place-at.ensures.below c.index_mut-bin.ensures.value c.place-at.ensures.place (g.Q.Query.stands_for c.args.key) in
    some_mapped pair_of_entry (entry_at g.K.Ord.cmp c.args.hash (g.Q.Query.stands_for c.args.key) (entries_of_bin c.index_mut-bin.result.now)) (rw (← c.self.view_is, here) at c.requires)

pub returns-clause-old : goal.returns-clause-old
returns-clause-old g c =
    let here = entry_here c.self.inside.bins.items c.args.hash c.place-at.result c.index_mut-bin.result.now c.place-at.ensures.below c.index_mut-bin.ensures.value c.place-at.ensures.place (g.Q.Query.stands_for c.args.key) in
    rw (← c.self.view_is, here) (value_mapped (entry_at g.K.Ord.cmp c.args.hash (g.Q.Query.stands_for c.args.key) (entries_of_bin c.index_mut-bin.result.now)) c.write.result c.write.ensures.old)

pub returns-clause-after : goal.returns-clause-after
returns-clause-after g c =
    let here = entry_here c.self.inside.bins.items c.args.hash c.place-at.result c.index_mut-bin.result.now c.place-at.ensures.below c.index_mut-bin.ensures.value c.place-at.ensures.place (g.Q.Query.stands_for c.args.key) in
    let some = some_mapped pair_of_entry (entry_at g.K.Ord.cmp c.args.hash (g.Q.Query.stands_for c.args.key) (entries_of_bin c.index_mut-bin.result.now)) (rw (← c.self.view_is, here) at c.requires) in
    rw (← c.self.view_is)
    (replaced_here c.self.inside.bins.items c.args.hash c.place-at.result c.index_mut-bin.result.now c.place-at.ensures.below c.index_mut-bin.ensures.value c.place-at.ensures.place
    g.met.K.Ord.total (g.Q.Query.stands_for c.args.key) c.args.value 0 c.write.new.self some c.write.ensures.after)

pub invariant_of-self : goal.invariant_of-self
invariant_of-self g c =
    let b = c.index_mut-bin.result.now in
    let zero = all_at _ c.self.inside.bins.items c.place-at.result b c.place-at.ensures.below c.index_mut-bin.ensures.value c.self.invariant.1 in
    (rw length-set c.self.invariant.0, all_set _ c.self.inside.bins.items c.place-at.result c.write.new.self (rw c.write.ensures.after (zero-with_value_at g.K.Ord.cmp c.args.hash (g.Q.Query.stands_for c.args.key) c.args.value (entries_of_bin b) zero)) c.self.invariant.1)
