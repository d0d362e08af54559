use denote.Param.Send.{sendable}
use Rattle.test_shared.proofs.Crossing.{numbers_sync, count_sync}
use Rattle.test_shared.proofs.tests.counterparts.threads.Work.TheSendSync as work
use Rattle.test_shared.proofs.tests.counterparts.threads.fn.work_in_threads.scope.Goals as goal

pub spawn-requires-send-F : goal.spawn-requires-send-F
spawn-requires-send-F g c κs within = search (numbers_sync, count_sync, work.the_send, sendable) depth 30
