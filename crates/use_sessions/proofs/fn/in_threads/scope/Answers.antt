-- What the threads share may cross threads.
use denote.Param.Send.{IsSync}
use Rattle.flurry.proofs.Sharing.{shares}
use Rattle.use_sessions.specs.contracts.sessions.Sessions as Sessions
use Rattle.use_sessions.proofs.fn.in_threads.scope.Goals as goal

pub spawn-child-requires-send-F : goal.spawn-child-requires-send-F
spawn-child-requires-send-F g c κs within =
    let shared : IsSync Sessions.the_row = search shares depth 60 in
    search shares depth 60
