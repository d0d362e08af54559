use Rattle.std.proofs.Common.{Some, refl, ap, ◌∙◌}
use Rattle.flurry_bins.specs.Chain.{entry_of}
use Rattle.flurry_bins.specs.PlainEntries.{numbered_pair}
use Rattle.flurry_bins_slots.proofs.LiveLaws.{live_found, live_taken}
use Rattle.flurry_bins_slots.proofs.live.LiveBin.take.Goals as goal
use Rattle.flurry_bins_slots.proofs.live.LiveBin.take.Goals.{in-Some, in-None}

pub returns-clause-entry : goal.returns-clause-entry
returns-clause-entry g c =
    let here = live_found c.self.inside.bin c.self.inside.writes c.args.hash (g.Q.Query.stands_for c.args.key) in
    rw (← c.self.view_is, here, ← c.remove.ensures.removed)
    (elim c.match-remove.branch [
      | in-Some w ↦ rw (w.result-is, w.in-Some.is) (ap (λ e. Some (numbered_pair e)) (w.into_entry.ensures ∙ ap entry_of w.into_inner.ensures))
      | in-None w ↦ rw (w.result-is, w.in-None.is) refl
    ])

pub returns-clause-after : goal.returns-clause-after
returns-clause-after g c =
    rw (← c.self.view_is)
    (live_taken c.self.inside.bin c.self.inside.writes g.met.K.Ord.total c.remove.new.self c.args.hash (g.Q.Query.stands_for c.args.key) c.remove.ensures.after c.remove.ensures.kind)
