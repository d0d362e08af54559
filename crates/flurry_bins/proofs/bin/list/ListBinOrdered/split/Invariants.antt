use Rattle.std.proofs.Common.{◌≡◌, ◌++◌, ◌+◌, ◌≤◌, reverse, length}
use Rattle.flurry_bins.specs.Chain.{chain}
use Rattle.flurry_bins.specs.Entries.{with_bit}
use Rattle.flurry_bins.proofs.bin.list.ListBinOrdered.split.Given as goal
use Rattle.flurry_base.specs.declared.sizes.TheConstants.{MAX_LEN}

abbrev pub invariant-loop-rest : goal.invariant-loop-rest
invariant-loop-rest g l = record {
  low : reverse (chain l.low) ++ with_bit l.bit 0 (chain l.rest) ≡ with_bit l.bit 0 (chain l.initial.rest);
  high : reverse (chain l.high) ++ with_bit l.bit 1 (chain l.rest) ≡ with_bit l.bit 1 (chain l.initial.rest);
  low_len : l.low_len ≡ length (chain l.low);
  high_len : l.high_len ≡ length (chain l.high);
  short : l.low_len + l.high_len + length (chain l.rest) ≤ MAX_LEN;
}
