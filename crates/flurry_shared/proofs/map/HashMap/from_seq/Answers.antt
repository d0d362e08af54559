use Rattle.std.proofs.Common.{◌≡◌, ◌^◌, length, rules, sym, ◌∙◌}
use Rattle.std.proofs.lemmas.List.{length-map}
use Rattle.flurry_shared.specs.Placing.{AreBinsOfTable}
use Rattle.flurry_shared.proofs.PlacingLemmas.{bins_of_table}
use Rattle.flurry_seq.specs.MapsOfBins.{plain_bin, maps_of_bins}
use Rattle.flurry_shared.proofs.map.HashMap.from_seq.Goals as goal

pub put_bins-requires : goal.put_bins-requires
put_bins-requires g c =
    let bins = c.into_bins-bins.result.0.items in
    let maps : length (maps_of_bins bins) ≡ 2 ^ c.exponent-table.result = c.into_bins-bins.ensures.bins.count ∙ sym c.capacity-bins.ensures.bins ∙ c.exponent-table.ensures.power in
    let count : length bins ≡ 2 ^ c.exponent-table.result = sym (length-map bins plain_bin) ∙ maps in
    let placed : AreBinsOfTable c.exponent-table.result 0 bins =
    bins_of_table (g.S.KeyHasher.hash_of c.args.map.hasher) c.exponent-table.result g.K.Ord.cmp 0 bins (rw maps at c.into_bins-bins.ensures.bins.placed) in
    search rules

pub returns-in_default-clause-same : goal.returns-in_default-clause-same
returns-in_default-clause-same g c = search rules
