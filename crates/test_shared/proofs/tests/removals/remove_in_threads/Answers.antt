use denote.Param.Send.{sendable}
use Rattle.flurry_shared.proofs.Crossing.{map_sync}
use Rattle.test_shared.proofs.tests.removals.remove_in_threads.Goals as goal

pub join-requires-send-F : goal.join-requires-send-F
join-requires-send-F g c κs within = search (map_sync, sendable) depth 30
