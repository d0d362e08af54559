use Rattle.std.proofs.Common.{refl}
use Rattle.flurry_shared_view.proofs.functions.MergingComputeFn.change.Goals as goal

pub returns-in-Some-clause-verdict : goal.returns-in-Some-clause-verdict
returns-in-Some-clause-verdict g c =
    rw (← c.self.view_is, c.in-Some.is) (c.f.result, c.set_or_remove.ensures, (c.in-Some.old, refl, c.f.ensures))
