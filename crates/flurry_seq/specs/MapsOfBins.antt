-- The bins of a table as plain finite maps.
use Rattle.std.specs.Prelude.{ℕ, List, map}
use Rattle.flurry_bins.specs.declared.bin.adaptive.Bin.{Bin}
use Rattle.flurry_bins.specs.Bin.{entries_of_bin}
use Rattle.flurry_bins.specs.PlainEntries.{pairs_of_entries}

module _ {K V A : Type 0} {o : _} {e : _} {p : _} where
  abbrev pub plain_bin : Bin K V A o e p → List ((ℕ × K) × V)
  plain_bin b = pairs_of_entries (entries_of_bin b)

  abbrev pub maps_of_bins : List (Bin K V A o e p) → List (List ((ℕ × K) × V))
  maps_of_bins bins = map plain_bin bins
