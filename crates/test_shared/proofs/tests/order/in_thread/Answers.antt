use denote.Param.{param, copied}
use denote.Param.Send.{IsSend, IsSync, sendable}
use Rattle.std.proofs.Crossing as plain
use Rattle.std.proofs.CrossingOver.{crosses}
use Rattle.test_shared.proofs.Crossing.{numbers, numbers_send, numbers_sync}
use Rattle.test_shared.proofs.tests.order.Phase.TheSendSync as phase
use Rattle.test_shared.proofs.tests.order.in_thread.Goals as goal

pub spawn-child-requires-send-F : goal.spawn-child-requires-send-F
spawn-child-requires-send-F g c κs within =
    let sent : IsSend (numbers (param 0 g.row.S) (copied 1 g.row.A) g.S.KeyHasher g.A.Allocator) = search (numbers_send, sendable) depth 30 in
    let shared : IsSync (numbers (param 0 g.row.S) (copied 1 g.row.A) g.S.KeyHasher g.A.Allocator) = search (numbers_sync, sendable) depth 30 in
    search (phase.the_send, crosses, plain.crosses, sendable) depth 30
