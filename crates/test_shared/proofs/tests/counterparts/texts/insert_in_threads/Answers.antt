-- What the threads share may cross threads.
use denote.Param.Send.{IsSync, sendable}
use Rattle.std.proofs.Crossing.{crosses}
use Rattle.flurry_shared.proofs.Crossing.{map_sync}
use Rattle.test_shared.specs.contracts.tests.counterparts.texts.Shared as Shared
use Rattle.test_shared.proofs.tests.counterparts.texts.insert_in_threads.Goals as goal

pub join-requires-send-F : goal.join-requires-send-F
join-requires-send-F g c κs within =
    let shared : IsSync Shared.the_row = search (map_sync, crosses, sendable) depth 60 in
    search (crosses, sendable) depth 60
