use Rattle.std.proofs.Common.{◌≡◌}
use Rattle.flurry_shared.proofs.owned.add_table.Given as goal

abbrev pub invariant-loop-index : goal.invariant-loop-index
invariant-loop-index g l = l.map.hasher ≡ l.fn.map.hasher
