use Rattle.std.proofs.Common.{◌≡◌, ◌++◌, [], replicate, drop}
use Rattle.flurry_seq.specs.Numbers.{BinsBearZero}
use Rattle.flurry_seq.specs.MapsOfBins.{maps_of_bins}
use Rattle.flurry_seq.proofs.table.Table.clear.Given as goal

abbrev pub invariant-loop-at : goal.invariant-loop-at
invariant-loop-at g l = record {
  empty : maps_of_bins l.self-inside.bins.items ≡ replicate l.at [] ++ drop l.at (maps_of_bins l.initial.self-inside.bins.items);
  numbers : BinsBearZero l.self-inside.bins.items;
}
