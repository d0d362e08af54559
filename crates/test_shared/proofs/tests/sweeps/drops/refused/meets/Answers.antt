use Rattle.std.proofs.Crossing.{frees}
use Rattle.test_shared.proofs.tests.sweeps.drops.refused.meets.Goals as goal

pub meets_in-requires-frees-A-Allocator : goal.meets_in-requires-frees-A-Allocator
meets_in-requires-frees-A-Allocator g c κs within = record { frees = λ lent. frees.frees lent.now.inner }
