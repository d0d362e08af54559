use Rattle.std.proofs.Common.{◌*◌, ◌%◌, ◌^◌}
use Rattle.flurry_bins_slots.proofs.SlotLaws.{live_in_computed}
use Rattle.flurry_bins_slots.proofs.slot.Slot.compute.Goals as goal

pub invariant_of-self-in-Live : goal.invariant_of-self-in-Live
invariant_of-self-in-Live g c =
    rw c.in-Live.is
    (record {
      table = c.self.invariant.table;
      index = c.self.invariant.index;
      content = live_in_computed g.met.K.Ord.total c.self.inside.table c.self.inside.index (1 * 2 ^ c.self.inside.table % 18446744073709551616) (g.F.ComputeFn.changes c.args.f) c.self.inside.live c.compute.new.self c.args.hash (g.Q.Query.stands_for c.args.key) _ (rw (← c.self.view_is) at c.requires.region) (rw c.in-Live.is at c.self.invariant.content) c.in_ok-compute-in-Live.ensures.done;
    })
