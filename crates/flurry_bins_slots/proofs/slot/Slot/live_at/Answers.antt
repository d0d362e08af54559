use Rattle.flurry_bins_slots.proofs.LiveLaws.{IsLiveIn-bin}
use Rattle.flurry_bins_slots.proofs.slot.Slot.live_at.Goals as goal

pub invariant_of-result : goal.invariant_of-result
invariant_of-result g c = record {
  table = c.requires.table;
  index = c.requires.index;
  content = rw c.new.ensures (IsLiveIn-bin c.args.bin c.args.writes c.args.table c.args.index c.requires.region);
}
