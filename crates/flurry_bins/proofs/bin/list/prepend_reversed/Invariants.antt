use Rattle.std.proofs.Common.{◌≡◌, ◌++◌, reverse}
use Rattle.flurry_bins.specs.Chain.{chain}
use Rattle.flurry_bins.proofs.bin.list.prepend_reversed.Given as goal

abbrev pub invariant-loop-from : goal.invariant-loop-from
invariant-loop-from g l = reverse (chain l.from) ++ chain l.to ≡ reverse (chain l.initial.from) ++ chain l.initial.to
