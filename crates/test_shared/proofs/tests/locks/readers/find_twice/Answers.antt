use denote.Param.Send.{sendable}
use Rattle.flurry_shared_locks.proofs.Crossing.{locks_sync}
use Rattle.test_shared.proofs.tests.locks.readers.find_twice.Goals as goal

pub join-requires-send-F : goal.join-requires-send-F
join-requires-send-F g c κs within = search (locks_sync, sendable) depth 30
