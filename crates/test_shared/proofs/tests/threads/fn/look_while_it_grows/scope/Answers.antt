use denote.Param.Send.{sendable}
use Rattle.test_shared.proofs.Crossing.{numbers_sync, count_sync}
use Rattle.test_shared.proofs.tests.threads.fn.look_while_it_grows.scope.Goals as goal

pub spawn-looker-requires-send-F : goal.spawn-looker-requires-send-F
spawn-looker-requires-send-F g c κs within = search (numbers_sync, count_sync, sendable) depth 30
