use Rattle.std.proofs.Common.{sym, ap, ◌∙◌, option_map}
use Rattle.flurry_bins.specs.PlainEntries.{pair_of_entry}
use Rattle.flurry_seq.proofs.MapsOfBinsLemmas.{entry_here}
use Rattle.flurry_base.proofs.OptionLaws.{copied}
use Rattle.flurry_seq.proofs.table.Table.find.Goals as goal

pub returns : goal.returns
returns g c =
    rw (← c.self.view_is)
    (copied pair_of_entry c.find.result.0 ∙ ap (option_map pair_of_entry) c.find.ensures.found
    ∙ sym (entry_here c.self.inside.bins.items c.args.hash c.place.result c.index-bin.result.now c.place.ensures.below c.index-bin.ensures c.place.ensures.place (g.Q.Query.stands_for c.args.key)))
