use Rattle.std.proofs.Common.{[], length, refl, sym, ap, subst, ◌∙◌}
use Rattle.flurry_seq_recorded.specs.Marks.{AreMarked}
use Rattle.flurry_seq_recorded.proofs.ShareLemmas.{numbered}
use Rattle.flurry_seq_recorded.proofs.checks.are_numbered.Goals as goal

pub returns-clause-ok : goal.returns-clause-ok
returns-clause-ok g c =
    numbered _ (length c.args.shares.now) c.args.shares.now c.mark_numbers.result (ap length c.deref_mut.ensures.value ∙ c.in_ok-marks.ensures.ok.1) refl
    (c.mark_numbers.ensures (subst (λ m. AreMarked m []) (sym c.deref_mut.ensures.value) c.in_ok-marks.ensures.ok.0))
