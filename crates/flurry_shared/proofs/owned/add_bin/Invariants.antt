use Rattle.std.proofs.Common.{◌≡◌}
use Rattle.flurry_shared.proofs.owned.add_bin.Given as goal

abbrev pub invariant-loop : goal.invariant-loop
invariant-loop g l = l.map.hasher ≡ l.fn.map.hasher
