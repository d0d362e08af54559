-- What the threads share, and the struct that borrows it, may cross threads.
use denote.Param.Send.{IsSend, IsSync}
use denote.Ref.{NamedLft}
use Rattle.flurry.proofs.Sharing.{shares}
use Rattle.docs_shapes.specs.contracts.Desk as Desk
use Rattle.docs_shapes.specs.contracts.Visits as Visits
use Rattle.docs_shapes.proofs.fn.own_borrower.scope.Goals as goal

pub spawn-child-requires-send-F : goal.spawn-child-requires-send-F
spawn-child-requires-send-F g c κs within =
    let shared : IsSync Visits.the_row = search shares depth 60 in
    let owned : (κ : NamedLft) → IsSend (Desk.the_row κ) = λ κ. search shares depth 60 in
    search shares depth 60
