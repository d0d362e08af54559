use Rattle.std.proofs.Common.{◌≡◌, ℕ, ◌-◌, ◌<◌, ◌≤◌, length}
use Rattle.std.specs.Vec.{vec_capacity}
use Rattle.flurry_seq.specs.Invariant.{IsTableSize}
use Rattle.flurry_seq.specs.Numbers.{BinsBearZero}
use Rattle.flurry_seq.specs.MapsOfBins.{maps_of_bins}
use Rattle.flurry_seq.specs.Table.{bins_after}
use Rattle.flurry_seq.proofs.table.halve_until.Given as goal

abbrev pub invariant-loop-bins : goal.invariant-loop-bins
invariant-loop-bins g l = record {
  doubled : (i : ℕ) × (maps_of_bins l.bins.items ≡ bins_after i (maps_of_bins l.initial.bins.items));
  size : IsTableSize (length l.bins.items);
  some : 0 < length l.bins.items;
  most : length l.bins.items ≤ l.count;
  numbers : BinsBearZero l.initial.bins.items → BinsBearZero l.bins.items;
  room : vec_capacity l.bins ≡ vec_capacity l.initial.bins;
}

abbrev pub decreases-loop-bins : goal.decreases-loop-bins
decreases-loop-bins g l = l.count - length l.bins.items
