-- The write numbers of the entries of an owned map.
use Rattle.std.specs.Prelude.{◌≡◌, List}
use Rattle.std.specs.List.{AllByRecursion}
use Rattle.flurry_bins.specs.declared.bin.adaptive.Bin.{Bin}
use Rattle.flurry_bins.specs.declared.bin.entry.Entry.{Entry}
use Rattle.flurry_bins.specs.Bin.{entries_of_bin}

module _ {K V A : Type 0} where
  -- each entry bears the write number 0
  abbrev pub BearZero : List (Entry K V A) → Type 0
  BearZero es = AllByRecursion (λ e. e.number ≡ 0) es

  -- so does each entry of each bin
  abbrev pub BinsBearZero : {o : _} {e : _} {p : _} → List (Bin K V A o e p) → Type 0
  BinsBearZero bins = AllByRecursion (λ b. BearZero (entries_of_bin b)) bins
