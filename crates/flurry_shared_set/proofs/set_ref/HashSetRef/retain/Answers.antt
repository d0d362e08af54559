use Rattle.std.proofs.lemmas.Result.{on_ok_weaker}
use Rattle.flurry_shared_set.proofs.set_ref.HashSetRef.retain.Goals as goal

pub returns : goal.returns
returns g c = on_ok_weaker c.retain_rest-ended.result (λ w. (_, w)) c.retain_rest-ended.ensures
