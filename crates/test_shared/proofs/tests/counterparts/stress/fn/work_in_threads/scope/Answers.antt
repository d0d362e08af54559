-- What the threads share, and what each of them does, may cross threads.
use denote.Param.Send.{IsSync, sendable}
use Rattle.std.proofs.Crossing.{crosses}
use Rattle.flurry_shared.proofs.Crossing.{map_sync}
use Rattle.test_shared.specs.contracts.tests.counterparts.stress.Both as Both
use Rattle.test_shared.proofs.tests.counterparts.stress.Deed.TheSendSync as deed
use Rattle.test_shared.proofs.tests.counterparts.stress.fn.work_in_threads.scope.Goals as goal

pub spawn-requires-send-F : goal.spawn-requires-send-F
spawn-requires-send-F g c κs within =
    let shared : IsSync Both.the_row = search (map_sync, crosses, sendable) depth 60 in
    search (crosses, deed.the_send, sendable) depth 60
