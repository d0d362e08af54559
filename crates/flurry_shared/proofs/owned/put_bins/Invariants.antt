use Rattle.std.proofs.Common.{◌≡◌, ◌+◌, ◌^◌, length}
use Rattle.std.specs.Vec.Iter.{into_iter_items}
use Rattle.flurry_shared.specs.Placing.{AreBinsOfTable}
use Rattle.flurry_shared.proofs.owned.put_bins.Given as goal

abbrev pub invariant-loop-bin : goal.invariant-loop-bin
invariant-loop-bin g l = record {
  placed : AreBinsOfTable l.table l.index (into_iter_items l.bin-iterator);
  count : l.index + length (into_iter_items l.bin-iterator) ≡ 2 ^ l.table;
}
