use Rattle.std.proofs.Common.{sym, subst}
use Rattle.flurry_bins_slots.specs.Slot.{IsLiveIn}
use Rattle.flurry_bins_slots.proofs.LiveLaws.{live_region}
use Rattle.flurry_bins_slots.proofs.slot.Slot.into_bin.Goals as goal

pub returns-in-Live-clause-region : goal.returns-in-Live-clause-region
returns-in-Live-clause-region g c =
    let place = c.self.inside in
    let kept = rw c.in-Live.is at c.self.invariant.content in
    let shown = subst (λ b. IsLiveIn g.K.Ord.cmp place.table place.index b) (sym c.into_bin.ensures) kept in
    rw (← c.self.view_is) (live_region c.into_bin.result c.self.inside.live.writes place.table place.index shown)
