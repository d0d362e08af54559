use Rattle.std.proofs.Common.{refl, true, false}
use Rattle.flurry_shared_view.proofs.functions.RemovingComputeFn.change.Goals as goal

pub returns-then-call_once-clause-verdict : goal.returns-then-call_once-clause-verdict
returns-then-call_once-clause-verdict g c =
    rw (← c.self.view_is, c.in-Some.is) (true, refl, record { key = c.args.key; value = c.in-Some.value; shows = (refl, refl); answered = c.if-call_once.ensures })

pub returns-else-call_once-clause-verdict : goal.returns-else-call_once-clause-verdict
returns-else-call_once-clause-verdict g c =
    rw (← c.self.view_is, c.in-Some.is) (false, refl, record { key = c.args.key; value = c.in-Some.value; shows = (refl, refl); answered = c.if-call_once.ensures })
