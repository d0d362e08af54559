use denote.Param.Send.{IsSync, sendable}
use Rattle.std.proofs.Crossing.{crosses}
use Rattle.flurry_shared_locks.proofs.Crossing.{locks_sync}
use Rattle.test_shared.specs.contracts.tests.locks.order.Flags as Flags
use Rattle.test_shared.proofs.tests.locks.order.fn.in_three_threads.scope.Goals as goal

pub spawn-holder-requires-send-F : goal.spawn-holder-requires-send-F
spawn-holder-requires-send-F g c κs within =
    let flags : IsSync Flags.the_row = search (crosses, sendable) depth 40 in
    search (locks_sync, sendable) depth 40

pub spawn-asker-requires-send-F : goal.spawn-asker-requires-send-F
spawn-asker-requires-send-F g c κs within =
    let flags : IsSync Flags.the_row = search (crosses, sendable) depth 40 in
    search (locks_sync, sendable) depth 40
