use Rattle.std.proofs.Crossing.{frees}
use Rattle.test_shared.proofs.tests.refused.threads_without_memory.Goals as goal

pub run_out-requires-frees-A-Allocator : goal.run_out-requires-frees-A-Allocator
run_out-requires-frees-A-Allocator c κs within = record { frees = λ lent. frees.frees lent.now.inner }
