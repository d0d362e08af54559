use denote.Param.Send.{IsSync, sendable}
use Rattle.std.proofs.Crossing.{crosses}
use Rattle.flurry_shared_locks.proofs.Crossing.{locks_sync}
use Rattle.test_shared.specs.contracts.tests.locks.growths.Work as Work
use Rattle.test_shared.proofs.tests.locks.growths.fn.grow_in_threads.scope.Goals as goal

pub spawn-requires-send-F : goal.spawn-requires-send-F
spawn-requires-send-F g c κs within =
    let work : IsSync Work.the_row = search (crosses, sendable) depth 40 in
    search (locks_sync, crosses, sendable) depth 40
