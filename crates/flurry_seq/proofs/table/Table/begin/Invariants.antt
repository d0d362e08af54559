use Rattle.std.proofs.Common.{◌≡◌, [], replicate}
use Rattle.flurry_seq.specs.Numbers.{BinsBearZero}
use Rattle.flurry_seq.specs.MapsOfBins.{maps_of_bins}
use Rattle.flurry_seq.proofs.table.Table.begin.Given as goal

abbrev pub invariant-loop : goal.invariant-loop
invariant-loop g l = record { empty : maps_of_bins l.table.items ≡ replicate l.counter []; numbers : BinsBearZero l.table.items }
