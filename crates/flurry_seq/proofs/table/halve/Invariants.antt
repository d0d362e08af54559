use Rattle.std.proofs.Common.{◌≡◌, ◌+◌, ◌*◌, ◌≤◌, ◌++◌, length}
use Rattle.std.specs.Vec.{vec_len, vec_capacity}
use Rattle.flurry_seq.specs.Numbers.{BinsBearZero}
use Rattle.flurry_seq.specs.MapsOfBins.{maps_of_bins}
use Rattle.flurry_seq.proofs.HalvingLemmas.{lows, highs}
use Rattle.flurry_seq.proofs.table.halve.Given as goal

abbrev pub invariant-loop-at : goal.invariant-loop-at
invariant-loop-at g l = record {
  halves : maps_of_bins l.bins.items ≡ lows (length l.initial.bins.items) l.at (maps_of_bins l.initial.bins.items) ++ highs (length l.initial.bins.items) l.at (maps_of_bins l.initial.bins.items);
  numbers : BinsBearZero l.initial.bins.items → BinsBearZero l.bins.items;
  count : vec_len l.bins ≡ length l.initial.bins.items + l.at;
  room : 2 * length l.initial.bins.items ≤ vec_capacity l.bins;
  capacity : vec_capacity l.bins ≡ vec_capacity l.initial.bins;
}
