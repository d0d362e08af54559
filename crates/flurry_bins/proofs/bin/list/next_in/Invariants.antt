use Rattle.std.proofs.Common.{◌≡◌, length}
use Rattle.flurry_bins.specs.Chain.{chain_from}
use Rattle.flurry_bins.specs.Entries.{first_past, lent_bound}
use Rattle.flurry_bins.proofs.bin.list.next_in.Given as goal

abbrev pub invariant-loop-link : goal.invariant-loop-link
invariant-loop-link g l = first_past g.K.Ord.cmp (lent_bound l.bound) (chain_from l.link) ≡ first_past g.K.Ord.cmp (lent_bound l.bound) (chain_from l.first)

abbrev pub decreases-loop-link : goal.decreases-loop-link
decreases-loop-link g l = length (chain_from l.link)
