use Rattle.std.proofs.Common.{◌≡◌, ◌<◌, [], length, set, ap, ◌∙◌, add-one, arith}
use Rattle.std.proofs.lemmas.List.{map-set, length-map}
use Rattle.flurry_bins.specs.PlainEntries.{pairs_of_entries}
use Rattle.flurry_seq.specs.MapsOfBins.{plain_bin, maps_of_bins}
use Rattle.flurry_seq.proofs.GrowthLemmas.{cleared, all_cleared}
use Rattle.flurry_seq.proofs.NumberLemmas.{all_set}
use Rattle.flurry_seq.proofs.table.Table.clear.Goals as goal

pub loop-at-preserved : goal.loop-at-preserved
loop-at-preserved g c =
    let lt : c.loop-at.at < length (maps_of_bins c.self.inside.bins.items) = rw length-map (omega (arith, c.len-at-end.ensures, c.self.inside.bins.ok.0)) in
    let empty = map-set plain_bin c.loop-at.self-inside.bins.items c.loop-at.at c.new.result ∙ ap (λ b. set (maps_of_bins c.loop-at.self-inside.bins.items) c.loop-at.at (pairs_of_entries b)) c.new.ensures.entries
    ∙ ap (λ l. set l c.loop-at.at []) c.loop-at.invariant.empty ∙ rw add-one (cleared [] c.loop-at.at (maps_of_bins c.self.inside.bins.items) lt) in
    record { empty = empty; numbers = all_set _ c.loop-at.self-inside.bins.items c.loop-at.at c.new.result (rw c.new.ensures.entries tt) c.loop-at.invariant.numbers }

pub returns : goal.returns
returns g c =
    let end : c.loop-at.at ≡ length (maps_of_bins c.self.inside.bins.items) = rw length-map (omega (arith, c.len-at-end.ensures, c.self.inside.bins.ok.0)) in
    c.loop-at.invariant.empty ∙ rw (end, ← c.self.view_is) (all_cleared [] (maps_of_bins c.self.inside.bins.items))
