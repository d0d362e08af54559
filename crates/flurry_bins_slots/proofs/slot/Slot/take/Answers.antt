use Rattle.std.proofs.Common.{rules}
use Rattle.flurry_bins_slots.proofs.SlotLaws.{live_in_taken}
use Rattle.flurry_bins_slots.proofs.slot.Slot.take.Goals as goal

pub invariant_of-self : goal.invariant_of-self
invariant_of-self g c =
    rw c.in-Live.is
    (record {
      table = c.self.invariant.table;
      index = c.self.invariant.index;
      content = rw c.take.ensures.after (live_in_taken g.met.K.Ord.total _ _ _ c.args.hash (g.Q.Query.stands_for c.args.key) (rw c.in-Live.is at c.self.invariant.content));
    })

pub returns-in-Live-clause-reply : goal.returns-in-Live-clause-reply
returns-in-Live-clause-reply g c = search rules
