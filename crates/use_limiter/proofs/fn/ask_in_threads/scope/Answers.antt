-- What the threads share may cross threads.
use denote.Param.Send.{IsSync, sendable}
use Rattle.std.proofs.Crossing.{crosses}
use Rattle.flurry_shared.proofs.Crossing.{map_sync}
use Rattle.use_limiter.specs.contracts.limiter.Limiter as Limiter
use Rattle.use_limiter.proofs.fn.ask_in_threads.scope.Goals as goal

pub spawn-child-requires-send-F : goal.spawn-child-requires-send-F
spawn-child-requires-send-F g c κs within =
    let shared : IsSync Limiter.the_row = search (map_sync, crosses, sendable) depth 60 in
    search (crosses, sendable) depth 60
