use Rattle.flurry_bins_insertion.specs.Inserted.{replaced_by, asks_by}
use Rattle.flurry_bins.specs.Bin.{entries_of_bin}
use Rattle.flurry_bins_slots.proofs.LiveLaws.{live_inserted, inserted_reply}
use Rattle.flurry_bins_slots.proofs.live.LiveBin.put_shared.Goals as goal

pub returns-clause-reply : goal.returns-clause-reply
returns-clause-reply g c =
    let w = c.in_ok-inserted.inserted in
    let put = c.in_ok-inserted.ensures in
    rw (← c.self.view_is) (inserted_reply c.self.inside.bin c.self.inside.writes c.args.bins c.args.hash c.args.key c.args.value _ (replaced_by w) (entries_of_bin c.insert_pair_in_bin.new.bin) (asks_by w) put.entries put.asks)

pub returns-clause-after : goal.returns-clause-after
returns-clause-after g c =
    let w = c.in_ok-inserted.inserted in
    let put = c.in_ok-inserted.ensures in
    rw (← c.self.view_is, c.saturating_add-number.ensures)
    (live_inserted c.self.inside.bin c.self.inside.writes g.met.K.Ord.total c.insert_pair_in_bin.new.bin c.args.bins c.args.hash c.args.key c.args.value (replaced_by w) (rw c.saturating_add-number.ensures at put.entries) put.kind)
