use Rattle.std.proofs.Common.{◌≡◌, length, map, max}
use Rattle.flurry_bins.specs.Chain.{chain_from}
use Rattle.flurry_base.specs.Greatest.{greatest}
use Rattle.flurry_bins.proofs.bin.list.greatest_in.Given as goal

abbrev pub invariant-loop-link : goal.invariant-loop-link
invariant-loop-link g l = max l.greatest (greatest (map (λ e. e.number) (chain_from l.link))) ≡ greatest (map (λ e. e.number) (chain_from l.first))

abbrev pub decreases-loop-link : goal.decreases-loop-link
decreases-loop-link g l = length (chain_from l.link)
