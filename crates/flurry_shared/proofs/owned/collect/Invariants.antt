use Rattle.std.proofs.Common.{◌≡◌}
use Rattle.flurry_shared.proofs.owned.collect.Given as goal

abbrev pub invariant-loop-table : goal.invariant-loop-table
invariant-loop-table g l = l.map.hasher ≡ l.fn.hasher
