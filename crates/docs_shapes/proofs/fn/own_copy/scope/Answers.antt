-- What the threads share, and the struct of which each has a copy, may cross threads.
use denote.Param.Send.{IsSend, IsSync}
use Rattle.flurry.proofs.Sharing.{shares}
use Rattle.docs_shapes.specs.contracts.Names as Names
use Rattle.docs_shapes.specs.contracts.Naming as Naming
use Rattle.docs_shapes.proofs.fn.own_copy.scope.Goals as goal

pub spawn-child-requires-send-F : goal.spawn-child-requires-send-F
spawn-child-requires-send-F g c κs within =
    let owned : IsSend Naming.the_row = search shares depth 60 in
    let shared : IsSync Names.the_row = search shares depth 60 in
    search shares depth 60
