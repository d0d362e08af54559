-- The bins that an owned map hands out go into the slots of a table with as many.
use Rattle.std.proofs.Common.{◌≡◌, ℕ, suc, ◌^◌, ◌+◌, List, [], ◌∷◌, subst, arith}
use Rattle.std.specs.List.{AllByRecursion}
use Rattle.std.specs.declared.cmp.Ordering.{Ordering}
use Rattle.flurry_bins.specs.declared.bin.adaptive.Bin.{Bin}
use Rattle.flurry_bins.specs.declared.bin.entry.Entry.{Entry}
use Rattle.flurry_bins.specs.Bin.{entries_of_bin}
use Rattle.flurry_bins.specs.PlainEntries.{AllInRegion, pairs_of_entries}
use Rattle.flurry_shared.specs.Placing.{AreBinsOfTable}
use Rattle.flurry_seq.specs.Invariant.{AreBinsFrom}
use Rattle.flurry_seq.specs.MapsOfBins.{maps_of_bins}
use Rattle.flurry_seq.specs.Table.{bin_of}

module _ {K V A : Type 0} (hash : K → ℕ) (table : ℕ) where
  in_region : (index : ℕ) (es : List (Entry K V A)) → AllByRecursion (λ e. (e.0.0 ≡ hash e.0.1) × (bin_of (2 ^ table) e.0.0 ≡ index)) (pairs_of_entries es) → AllInRegion table index es
  in_region index [] all = tt
  in_region index (e ∷ es) all = (all.0.1, in_region index es all.1)

  pub bins_of_table : {o : _} {e : _} {p : _} (cmp : K → K → Ordering) (index : ℕ) (bins : List (Bin K V A o e p)) → AreBinsFrom cmp hash (2 ^ table) index (maps_of_bins bins) → AreBinsOfTable table index bins
  bins_of_table cmp index [] from = tt
  bins_of_table cmp index (b ∷ bins) from =
      let next : suc index ≡ index + 1 = omega arith in
      (in_region index (entries_of_bin b) from.0.placed, subst (λ n. AreBinsOfTable table n bins) next (bins_of_table cmp (suc index) bins from.1))
