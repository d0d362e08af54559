-- A bin's entries as a finite map whose key is the hash and the key.
use Rattle.std.specs.Prelude.{ℕ, List, map}
use Rattle.std.specs.List.{AllByRecursion}
use Rattle.std.specs.Arc.{arc_value}
use Rattle.flurry_base.specs.HashOrder.{InRegion}
use Rattle.flurry_bins.specs.declared.bin.entry.Entry.{Entry}

-- an entry as a pair of such a map, with what is looked at of it
abbrev pub pair_with : {K V A W : Type 0} → (Entry K V A → W) → Entry K V A → (ℕ × K) × W
pair_with f e = ((e.hash, arc_value e.key), f e)

-- with its value
abbrev pub pair_of_entry : {K V A : Type 0} → Entry K V A → (ℕ × K) × V
pair_of_entry e = pair_with (λ d. arc_value d.value) e

-- with its value and its write number
abbrev pub numbered_pair : {K V A : Type 0} → Entry K V A → (ℕ × K) × (V × ℕ)
numbered_pair e = pair_with (λ d. (arc_value d.value, d.number)) e

abbrev pub pairs_of_entries : {K V A : Type 0} → List (Entry K V A) → List ((ℕ × K) × V)
pairs_of_entries es = map pair_of_entry es

abbrev pub numbered_pairs : {K V A : Type 0} → List (Entry K V A) → List ((ℕ × K) × (V × ℕ))
numbered_pairs es = map numbered_pair es

-- each entry lies in the region
abbrev pub AllInRegion : {K V A : Type 0} → ℕ → ℕ → List (Entry K V A) → Type 0
AllInRegion e i es = AllByRecursion (λ d. InRegion e i d.hash) es
