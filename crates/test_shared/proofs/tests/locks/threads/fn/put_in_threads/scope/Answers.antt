use denote.Param.Send.{sendable}
use Rattle.flurry_shared_locks.proofs.Crossing.{locks_sync}
use Rattle.test_shared.proofs.tests.locks.threads.fn.put_in_threads.scope.Goals as goal

pub spawn-requires-send-F : goal.spawn-requires-send-F
spawn-requires-send-F g c κs within = search (locks_sync, sendable) depth 30
