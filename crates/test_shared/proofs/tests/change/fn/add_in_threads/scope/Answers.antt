use denote.Param.Send.{sendable}
use Rattle.flurry_shared.proofs.Crossing.{map_sync}
use Rattle.test_shared.proofs.tests.change.Adds.TheSendSync as adds
use Rattle.test_shared.proofs.tests.change.fn.add_in_threads.scope.Goals as goal

pub spawn-requires-send-F : goal.spawn-requires-send-F
spawn-requires-send-F g c κs within = search (map_sync, adds.the_send, sendable) depth 30
