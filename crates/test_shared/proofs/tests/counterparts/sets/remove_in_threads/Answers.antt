-- What the threads share may cross threads.
use denote.Param.Send.{IsSync, sendable}
use Rattle.std.proofs.Crossing.{crosses}
use Rattle.flurry_shared_set.proofs.Crossing.{set_sync}
use Rattle.test_shared.specs.contracts.tests.counterparts.sets.Shared as Shared
use Rattle.test_shared.proofs.tests.counterparts.sets.remove_in_threads.Goals as goal

pub join-requires-send-F : goal.join-requires-send-F
join-requires-send-F g c κs within =
    let shared : IsSync Shared.the_row = search (set_sync, crosses, sendable) depth 60 in
    search (crosses, sendable) depth 60
