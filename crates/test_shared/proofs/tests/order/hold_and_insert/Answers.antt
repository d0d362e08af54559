use denote.Param.Send.{sendable}
use Rattle.test_shared.proofs.Crossing.{numbers_sync, flag_sync}
use Rattle.test_shared.proofs.tests.order.hold_and_insert.Goals as goal

pub join-requires-send-F : goal.join-requires-send-F
join-requires-send-F g c κs within = search (numbers_sync, flag_sync, sendable) depth 30
