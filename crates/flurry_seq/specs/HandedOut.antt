-- The bins that a map hands out.
use Rattle.std.specs.Prelude.{◌≡◌, ℕ, List, length}
use Rattle.std.specs.declared.cmp.Ordering.{Ordering}
use Rattle.std.specs.List.Sorted.{IsPermutation}
use Rattle.flurry_seq.specs.Contents.{Contents}
use Rattle.flurry_seq.specs.Invariant.{AreBinsFrom}
use Rattle.flurry_seq.specs.Table.{all_pairs}

-- they are as many as the map's, they hold its pairs, each once, and each pair lies in the bin of its key's hash
pub record AreBinsOf {K V S : Type 0} (cmp : K → K → Ordering) (hash : K → ℕ) (m : Contents K V S) (bins : List (List ((ℕ × K) × V))) : Type 0 where
  pub count : length bins ≡ m.bins
  pub pairs : IsPermutation m.pairs (all_pairs bins)
  pub placed : AreBinsFrom cmp hash (length bins) 0 bins
