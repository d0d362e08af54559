use Rattle.std.proofs.Common.{sym, ap, ◌∙◌, option_map}
use Rattle.flurry_bins.specs.PlainEntries.{numbered_pair}
use Rattle.flurry_bins_slots.proofs.LiveLaws.{live_found}
use Rattle.flurry_base.proofs.OptionLaws.{copied}
use Rattle.flurry_bins_slots.proofs.live.LiveBin.find.Goals as goal

pub returns : goal.returns
returns g c =
    rw (← c.self.view_is)
    (copied numbered_pair c.find.result.0 ∙ ap (option_map numbered_pair) c.find.ensures.found ∙ sym (live_found c.self.inside.bin c.self.inside.writes c.args.hash (g.Q.Query.stands_for c.args.key)))
