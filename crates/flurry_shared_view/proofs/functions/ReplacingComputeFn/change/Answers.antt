use Rattle.std.proofs.Common.{refl, ap, ◌∙◌, true, false}
use Rattle.flurry_shared_view.specs.Alterations.{replacement}
use Rattle.flurry_shared_view.proofs.functions.ReplacingComputeFn.change.Goals as goal

pub returns-then-test-clause-verdict : goal.returns-then-test-clause-verdict
returns-then-test-clause-verdict g c =
    rw (← c.self.view_is, c.in-Some.is) (true, c.set_or_keep.ensures ∙ ap replacement c.take.ensures.value, record { key = c.args.key; value = c.in-Some.old; shows = (refl, refl); answered = c.if-test.ensures })

pub returns-else-test-clause-verdict : goal.returns-else-test-clause-verdict
returns-else-test-clause-verdict g c =
    rw (← c.self.view_is, c.in-Some.is) (false, refl, record { key = c.args.key; value = c.in-Some.old; shows = (refl, refl); answered = c.if-test.ensures })
