use Rattle.std.proofs.Common.{◌≡◌, ◌++◌, reverse}
use Rattle.flurry_bins.specs.Chain.{chain}
use Rattle.flurry_bins.specs.Entries.{AllBefore}
use Rattle.flurry_bins.proofs.bin.list.split_before.Given as goal

abbrev pub invariant-loop-rest : goal.invariant-loop-rest
invariant-loop-rest g l = record {
  whole : reverse (chain l.front) ++ chain l.rest ≡ chain l.initial.rest;
  before : AllBefore g.K.Ord.cmp l.hash (g.Q.Query.stands_for l.key) (chain l.front);
}
