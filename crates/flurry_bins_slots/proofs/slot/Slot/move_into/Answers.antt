use Rattle.std.proofs.Common.{refl}
use Rattle.flurry_bins_slots.proofs.SlotLaws.{live_in_low, live_in_high}
use Rattle.flurry_bins_slots.proofs.slot.Slot.move_into.Goals as goal

pub invariant_of-low : goal.invariant_of-low
invariant_of-low g c =
    let halves = rw (← c.self.view_is, ← c.low.view_is, ← c.high.view_is) at c.if-not-has_halves.ensures.0 refl in
    record {
      table = c.low.invariant.table;
      index = c.low.invariant.index;
      content = rw (c.split-lows.ensures.low, c.replace-live.ensures.value, halves.low_table, halves.low_index) (live_in_low g.met.K.Ord.total c.self.inside.table c.self.inside.index c.self.inside.live (rw c.in-Live.is at c.self.invariant.content));
    }

pub invariant_of-high : goal.invariant_of-high
invariant_of-high g c =
    let halves = rw (← c.self.view_is, ← c.low.view_is, ← c.high.view_is) at c.if-not-has_halves.ensures.0 refl in
    record {
      table = c.high.invariant.table;
      index = c.high.invariant.index;
      content = rw (c.split-lows.ensures.high, c.replace-live.ensures.value, halves.high_table, halves.high_index) (live_in_high g.met.K.Ord.total c.self.inside.table c.self.inside.index c.self.inside.live (rw c.in-Live.is at c.self.invariant.content));
    }
