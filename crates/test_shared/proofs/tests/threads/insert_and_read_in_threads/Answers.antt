use denote.Param.Send.{sendable}
use Rattle.test_shared.proofs.Crossing.{numbers_sync, flag_sync}
use Rattle.test_shared.proofs.tests.threads.insert_and_read_in_threads.Goals as goal

pub join-requires-send-F : goal.join-requires-send-F
join-requires-send-F g c κs within = search (numbers_sync, flag_sync, sendable) depth 30
