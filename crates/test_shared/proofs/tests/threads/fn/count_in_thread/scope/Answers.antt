use denote.Param.Send.{sendable}
use Rattle.test_shared.proofs.Crossing.{numbers_send}
use Rattle.test_shared.proofs.tests.threads.fn.count_in_thread.scope.Goals as goal

pub spawn-requires-send-F : goal.spawn-requires-send-F
spawn-requires-send-F g c κs within = search (numbers_send, sendable) depth 30
