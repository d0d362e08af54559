-- What the threads share may cross threads.
use denote.Param.Send.{IsSync}
use Rattle.flurry.proofs.Sharing.{shares}
use Rattle.docs_shapes.specs.contracts.Names as Names
use Rattle.docs_shapes.proofs.fn.share_texts.scope.Goals as goal

pub spawn-child-requires-send-F : goal.spawn-child-requires-send-F
spawn-child-requires-send-F g c κs within =
    let shared : IsSync Names.the_row = search shares depth 60 in
    search shares depth 60
