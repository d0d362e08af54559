-- What each thread shares may cross threads.
use denote.Param.Send.{IsSync}
use Rattle.flurry.proofs.Sharing.{shares}
use Rattle.docs_shapes.specs.contracts.Names as Names
use Rattle.docs_shapes.specs.contracts.Visits as Visits
use Rattle.docs_shapes.proofs.fn.share_two.scope.Goals as goal

pub spawn-namer-requires-send-F : goal.spawn-namer-requires-send-F
spawn-namer-requires-send-F g c κs within =
    let named : IsSync Names.the_row = search shares depth 60 in
    search shares depth 60

pub spawn-visitor-requires-send-F : goal.spawn-visitor-requires-send-F
spawn-visitor-requires-send-F g c κs within =
    let visited : IsSync Visits.the_row = search shares depth 60 in
    let named : IsSync Names.the_row = search shares depth 60 in
    search shares depth 60
