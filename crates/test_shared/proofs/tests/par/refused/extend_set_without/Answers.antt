use Rattle.std.proofs.Crossing.{frees}
use Rattle.test_shared.proofs.tests.par.refused.extend_set_without.Goals as goal

pub refuse_in_set-requires-frees-A-Allocator : goal.refuse_in_set-requires-frees-A-Allocator
refuse_in_set-requires-frees-A-Allocator g c κs within = record { frees = λ lent. frees.frees lent.now.inner }
