use Rattle.flurry_bins.specs.Bin.{entries_of_bin}
use Rattle.flurry_bins.specs.Entries.{entry_at}
use Rattle.flurry_bins.specs.PlainEntries.{numbered_pair}
use Rattle.flurry_bins_slots.proofs.LiveLaws.{live_found, live_rewritten, value_of_entry}
use Rattle.flurry_base.proofs.OptionLaws.{some_mapped}
use Rattle.flurry_bins_slots.proofs.live.LiveBin.rewrite.Goals as goal

pub write-requires : goal.write-requires
write-requires g c =
    let here = live_found c.self.inside.bin c.self.inside.writes c.args.hash (g.Q.Query.stands_for c.args.key) in
    some_mapped numbered_pair (entry_at g.K.Ord.cmp c.args.hash (g.Q.Query.stands_for c.args.key) (entries_of_bin c.self.inside.bin)) (rw (← c.self.view_is, here) at c.requires)

pub returns-clause-old : goal.returns-clause-old
returns-clause-old g c =
    let here = live_found c.self.inside.bin c.self.inside.writes c.args.hash (g.Q.Query.stands_for c.args.key) in
    rw (← c.self.view_is, here) (value_of_entry (entry_at g.K.Ord.cmp c.args.hash (g.Q.Query.stands_for c.args.key) (entries_of_bin c.self.inside.bin)) c.write.result c.write.ensures.old)

pub returns-clause-after : goal.returns-clause-after
returns-clause-after g c =
    let here = live_found c.self.inside.bin c.self.inside.writes c.args.hash (g.Q.Query.stands_for c.args.key) in
    let some = some_mapped numbered_pair (entry_at g.K.Ord.cmp c.args.hash (g.Q.Query.stands_for c.args.key) (entries_of_bin c.self.inside.bin)) (rw (← c.self.view_is, here) at c.requires) in
    rw (← c.self.view_is, c.saturating_add-self-inside.ensures)
    (live_rewritten c.self.inside.bin c.self.inside.writes g.met.K.Ord.total c.write.new.self c.args.bins c.args.hash (g.Q.Query.stands_for c.args.key) c.args.value some (rw c.saturating_add-self-inside.ensures at c.write.ensures.after) c.write.ensures.kind)
