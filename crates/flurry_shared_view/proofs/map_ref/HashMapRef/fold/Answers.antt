use Rattle.std.proofs.lemmas.Result.{IfOk-weaker}
use Rattle.flurry_shared_view.proofs.map_ref.HashMapRef.fold.Goals as goal

pub returns : goal.returns
returns g c = IfOk-weaker c.fold_rest-folded.result _ _ (λ folded w. (_, w)) c.fold_rest-folded.ensures
