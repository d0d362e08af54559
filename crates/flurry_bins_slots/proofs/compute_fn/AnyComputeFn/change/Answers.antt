use Rattle.std.proofs.Common.{refl, Some, None}
use Rattle.flurry_bins_slots.proofs.compute_fn.AnyComputeFn.change.Goals as goal

pub returns-in-Some-self-clause-verdict : goal.returns-in-Some-self-clause-verdict
returns-in-Some-self-clause-verdict g c =
    rw c.in-Some.is (Some c.in-Some-self.new, refl, record { key = c.args.key; value = c.in-Some.value; shows = (refl, refl); answered = c.in-Some-self.ensures })

pub returns-in-None-self-clause-verdict : goal.returns-in-None-self-clause-verdict
returns-in-None-self-clause-verdict g c =
    rw c.in-Some.is (None, refl, record { key = c.args.key; value = c.in-Some.value; shows = (refl, refl); answered = c.in-None-self.ensures })
