use Rattle.std.proofs.Common.{arith, rules}
use Rattle.flurry_shared.proofs.owned.put_bins.Goals as goal

pub loop-bin-preserved : goal.loop-bin-preserved
loop-bin-preserved g c = record {
  placed = (rw c.in-Some.ensures.steps.0 at c.loop-bin.invariant.placed).1;
  count = omega (arith, rw c.in-Some.ensures.steps.0 at c.loop-bin.invariant.count);
}

pub live-requires-clause-index : goal.live-requires-clause-index
live-requires-clause-index g c = search rules

pub live-requires-clause-region : goal.live-requires-clause-region
live-requires-clause-region g c = search rules
