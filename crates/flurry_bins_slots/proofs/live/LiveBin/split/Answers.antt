use Rattle.flurry_bins_slots.proofs.LiveLaws.{live_half}
use Rattle.flurry_bins_slots.proofs.live.LiveBin.split.Goals as goal

pub returns-clause-low : goal.returns-clause-low
returns-clause-low g c =
    rw (← c.self.view_is)
    (live_half c.self.inside.bin c.self.inside.writes c.split-low.result.0 c.args.bit 0 c.split-low.ensures.low c.split-low.ensures.low_kind)

pub returns-clause-high : goal.returns-clause-high
returns-clause-high g c =
    rw (← c.self.view_is)
    (live_half c.self.inside.bin c.self.inside.writes c.split-low.result.1 c.args.bit 1 c.split-low.ensures.high c.split-low.ensures.high_kind)
