use Rattle.std.proofs.Common.{◌≡◌}
use Rattle.flurry_seq.specs.Numbers.{BinsBearZero}
use Rattle.flurry_seq.specs.MapsOfBins.{maps_of_bins}
use Rattle.flurry_seq.proofs.KeepsLemmas.{KeepsBefore, front_len}
use Rattle.flurry_seq.proofs.table.Table.retain.Given as goal

abbrev pub invariant-loop-at : goal.invariant-loop-at
invariant-loop-at g l = record {
  callable : goal.F-IsAlwaysCallable g l.keep;
  kept : KeepsBefore (goal.F-step g) l.at l.initial.keep (maps_of_bins l.initial.self-inside.bins.items) (maps_of_bins l.self-inside.bins.items) l.keep;
  numbers : BinsBearZero l.self-inside.bins.items;
  len : l.len ≡ front_len l.at (maps_of_bins l.self-inside.bins.items);
}
