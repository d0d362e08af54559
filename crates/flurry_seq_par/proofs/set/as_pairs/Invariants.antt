use Rattle.std.proofs.Common.{◌≡◌, map}
use Rattle.flurry_seq_par.specs.Joins.{with_unit}
use Rattle.flurry_seq_par.proofs.set.as_pairs.Given as goal

abbrev pub invariant-loop-element : goal.invariant-loop-element
invariant-loop-element g l = l.pairs.items ≡ map with_unit l.yielded
