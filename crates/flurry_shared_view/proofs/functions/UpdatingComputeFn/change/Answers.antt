use Rattle.std.proofs.Common.{refl}
use Rattle.flurry_shared_view.proofs.functions.UpdatingComputeFn.change.Goals as goal

pub returns-in-Some-clause-verdict : goal.returns-in-Some-clause-verdict
returns-in-Some-clause-verdict g c =
    rw (← c.self.view_is, c.in-Some.is) (c.call_once.result, refl, record { key = c.args.key; value = c.in-Some.value; shows = (refl, refl); answered = c.call_once.ensures })
