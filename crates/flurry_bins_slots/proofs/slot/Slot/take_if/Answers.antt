use Rattle.flurry_bins_slots.proofs.SlotLaws.{live_in_taken_if}
use Rattle.flurry_bins_slots.proofs.slot.Slot.take_if.Goals as goal

pub invariant_of-self : goal.invariant_of-self
invariant_of-self g c =
    rw c.in-Live.is
    (record {
      table = c.self.invariant.table;
      index = c.self.invariant.index;
      content = rw c.take_if.ensures.after (live_in_taken_if g.met.K.Ord.total _ _ c.args.number _ c.args.hash (g.Q.Query.stands_for c.args.key) (rw c.in-Live.is at c.self.invariant.content));
    })
