use Rattle.std.proofs.Common.{sym, ap, ◌∙◌, option_map}
use Rattle.flurry_bins.specs.Bin.{entries_of_bin}
use Rattle.flurry_bins.specs.Entries.{lent_bound}
use Rattle.flurry_bins.specs.PlainEntries.{numbered_pair}
use Rattle.flurry_bins_slots.proofs.LiveLaws.{value_and_number}
use Rattle.flurry_base.proofs.OptionLaws.{copied}
use Rattle.flurry_bins.proofs.PlainEntryLaws.{paired-first_past}
use Rattle.flurry_bins_slots.proofs.live.LiveBin.next_after.Goals as goal

pub returns : goal.returns
returns g c =
    rw (← c.self.view_is)
    (copied numbered_pair c.next_after.result ∙ ap (option_map numbered_pair) c.next_after.ensures
    ∙ sym (paired-first_past g.K.Ord.cmp value_and_number (lent_bound c.args.bound) (entries_of_bin c.self.inside.bin)))
