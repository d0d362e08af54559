use denote.Param.Send.{sendable}
use Rattle.flurry_shared_locks.proofs.Crossing.{locks_send}
use Rattle.test_shared.proofs.tests.locks.threads.fn.count_in_thread.scope.Goals as goal

pub spawn-requires-send-F : goal.spawn-requires-send-F
spawn-requires-send-F g c κs within = search (locks_send, sendable) depth 30
