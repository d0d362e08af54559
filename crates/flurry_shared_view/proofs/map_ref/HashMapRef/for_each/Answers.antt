use Rattle.std.proofs.lemmas.Result.{on_ok_weaker}
use Rattle.flurry_shared_view.proofs.map_ref.HashMapRef.for_each.Goals as goal

pub returns : goal.returns
returns g c = on_ok_weaker c.visit_rest-ended.result (λ w. (_, w)) c.visit_rest-ended.ensures
