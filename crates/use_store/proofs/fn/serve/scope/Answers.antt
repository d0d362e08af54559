-- What the threads share, and what each of them owns, may cross threads.
use denote.Param.Send.{IsSend, IsSync}
use Rattle.flurry.proofs.Sharing.{shares}
use Rattle.use_store.specs.contracts.Ends as Ends
use Rattle.use_store.specs.contracts.Shared as Shared
use Rattle.use_store.proofs.Ends.TheSendSync as ends
use Rattle.use_store.proofs.fn.serve.scope.Goals as goal

pub spawn-worker-requires-send-F : goal.spawn-worker-requires-send-F
spawn-worker-requires-send-F g c κs within =
    let owned : IsSend Ends.the_row = search (ends.the_send, shares) depth 60 in
    let shared : IsSync Shared.the_row = search shares depth 60 in
    search shares depth 60
