use Rattle.std.proofs.Common.{[], length, refl, sym, ap, subst, ◌∙◌}
use Rattle.flurry_seq_recorded.specs.Marks.{AreMarked}
use Rattle.flurry_seq_recorded.proofs.ShareLemmas.{placed}
use Rattle.flurry_seq_recorded.proofs.checks.places_stand.Goals as goal

pub returns-clause-ok : goal.returns-clause-ok
returns-clause-ok g c =
    placed _ c.args.calls c.args.shares.now c.mark_shares.result (ap length c.deref_mut.ensures.value ∙ c.in_ok-marks.ensures.ok.1) (c.if-not-all_ascend.ensures.0 refl) c.requires
    (c.mark_shares.ensures (subst (λ m. AreMarked m []) (sym c.deref_mut.ensures.value) c.in_ok-marks.ensures.ok.0))
