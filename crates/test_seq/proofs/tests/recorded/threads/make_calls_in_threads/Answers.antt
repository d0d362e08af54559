use denote.Param.Send.{sendable}
use Rattle.test_seq.proofs.tests.recorded.Crossing.{numbers_sync, number_share_send}
use Rattle.test_seq.proofs.tests.recorded.threads.make_calls_in_threads.Goals as goal

pub join-requires-send-F : goal.join-requires-send-F
join-requires-send-F g c κs within = search (numbers_sync, number_share_send, sendable) depth 40
