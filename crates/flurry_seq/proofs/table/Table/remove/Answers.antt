use Rattle.std.proofs.Common.{Some, refl, ap, ◌∙◌}
use Rattle.flurry_bins.specs.Chain.{entry_of}
use Rattle.flurry_bins.specs.PlainEntries.{pair_of_entry}
use Rattle.flurry_seq.proofs.MapsOfBinsLemmas.{entry_here, removed_here}
use Rattle.flurry_seq.proofs.NumberLemmas.{all_at, all_filter, all_set}
use Rattle.flurry_bins.specs.Bin.{entries_of_bin}
use Rattle.std.proofs.Common.{length-set}
use Rattle.flurry_seq.proofs.table.Table.remove.Goals as goal
use Rattle.flurry_seq.proofs.table.Table.remove.Goals.{in-Some, in-None}

pub returns-clause-entry : goal.returns-clause-entry
returns-clause-entry g c =
    let here = entry_here c.self.inside.bins.items c.args.hash c.place-at.result c.index_mut-bin.result.now c.place-at.ensures.below c.index_mut-bin.ensures.value c.place-at.ensures.place (g.Q.Query.stands_for c.args.key) in
    rw (← c.self.view_is, here, ← c.remove.ensures.removed)
    (elim c.match-remove.branch [
      | in-Some w ↦ rw (w.result-is, w.in-Some.is) (ap (λ e. Some (pair_of_entry e)) (w.into_entry.ensures ∙ ap entry_of w.into_inner.ensures))
      | in-None w ↦ rw (w.result-is, w.in-None.is) refl
    ])

pub returns-clause-after : goal.returns-clause-after
returns-clause-after g c =
    rw (← c.self.view_is)
    (removed_here c.self.inside.bins.items c.args.hash c.place-at.result c.index_mut-bin.result.now c.place-at.ensures.below c.index_mut-bin.ensures.value c.place-at.ensures.place
    g.met.K.Ord.total (g.Q.Query.stands_for c.args.key) c.remove.new.self c.remove.ensures.after)

pub invariant_of-self : goal.invariant_of-self
invariant_of-self g c =
    let b = c.index_mut-bin.result.now in
    let zero = all_at _ c.self.inside.bins.items c.place-at.result b c.place-at.ensures.below c.index_mut-bin.ensures.value c.self.invariant.1 in
    (rw length-set c.self.invariant.0, all_set _ c.self.inside.bins.items c.place-at.result c.remove.new.self (rw c.remove.ensures.after (all_filter _ _ (entries_of_bin b) zero)) c.self.invariant.1)
