-- What the threads share, and what each of them owns, may cross threads.
use denote.Param.Send.{IsSend, IsSync}
use Rattle.flurry.proofs.Sharing.{shares}
use Rattle.docs_shapes.specs.contracts.Ends as Ends
use Rattle.docs_shapes.specs.contracts.Visits as Visits
use Rattle.docs_shapes.proofs.Ends.TheSendSync as ends
use Rattle.docs_shapes.proofs.fn.own_ends.scope.Goals as goal

pub spawn-child-requires-send-F : goal.spawn-child-requires-send-F
spawn-child-requires-send-F g c κs within =
    let owned : IsSend Ends.the_row = search (ends.the_send, shares) depth 60 in
    let shared : IsSync Visits.the_row = search shares depth 60 in
    search shares depth 60
