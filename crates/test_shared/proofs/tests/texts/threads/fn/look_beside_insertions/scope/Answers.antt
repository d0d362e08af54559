-- What the threads share may cross threads.
use denote.Param.Send.{IsSync, sendable}
use Rattle.std.proofs.Crossing.{crosses}
use Rattle.flurry_shared.proofs.Crossing.{map_sync}
use Rattle.test_shared.specs.contracts.tests.texts.threads.Shared as Shared
use Rattle.test_shared.proofs.tests.texts.threads.fn.look_beside_insertions.scope.Goals as goal

pub spawn-child-requires-send-F : goal.spawn-child-requires-send-F
spawn-child-requires-send-F g c κs within =
    let shared : IsSync Shared.the_row = search (map_sync, crosses, sendable) depth 60 in
    search (crosses, sendable) depth 60
