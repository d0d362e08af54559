-- Bins that go into the slots of a table.
use Rattle.std.specs.Prelude.{ℕ, ◌+◌, List, [], ◌∷◌}
use Rattle.flurry_bins.specs.declared.bin.adaptive.Bin.{Bin}
use Rattle.flurry_bins.specs.Bin.{entries_of_bin}
use Rattle.flurry_bins.specs.PlainEntries.{AllInRegion}

-- the hashes of each bin lie in the region of its index in the table, counted from there
module _ {K V A : Type 0} {o : _} {e : _} {p : _} where
  abbrev pub AreBinsOfTable : ℕ → ℕ → List (Bin K V A o e p) → Type 0
  AreBinsOfTable table index [] = Unit {0}
  AreBinsOfTable table index (b ∷ bins) = AllInRegion table index (entries_of_bin b) × AreBinsOfTable table (index + 1) bins
