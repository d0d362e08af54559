use Rattle.flurry_bins_slots.proofs.SlotLaws.{live_in_wiped}
use Rattle.flurry_bins_slots.proofs.slot.Slot.drain.Goals as goal

pub invariant_of-self : goal.invariant_of-self
invariant_of-self g c =
    rw c.in-Live.is
    (record {
      table = c.self.invariant.table;
      index = c.self.invariant.index;
      content = rw c.drain.ensures.after (live_in_wiped g.met.K.Ord.total _ _ c.self.inside.live);
    })
