-- What an insertion at a place makes of a tree.
use Rattle.std.specs.Prelude.{◌≡◌, ℕ, Option, Some, None}
use Rattle.std.specs.declared.cmp.Ordering.{Ordering}
use Rattle.std.specs.declared.sync.Arc.{Arc}
use Rattle.flurry_bins.specs.declared.bin.entry.Entry.{Entry}
use Rattle.flurry_bins.specs.Entries.{IsEntryOf}
use Rattle.flurry_bins.specs.Balance.{put_tree}
use Rattle.flurry_bins.specs.Rewrite.{tree_with_value, tree_value}
use Rattle.flurry_bins.specs.Tree.{Tree}

-- by the value that it answers: that value's entry has v and n, or a look-up led to none, and a new entry has them
abbrev pub IsTreeInsertion : {K V A : Type 0} → (K → K → Ordering) → ℕ → K → Arc V A → ℕ → Option (Arc V A) → Tree (Entry K V A) → Tree (Entry K V A) → Type 0
IsTreeInsertion {K} {V} {A} cmp h k v n None t new = (tree_value cmp h k t ≡ None) × (x : Entry K V A) × IsEntryOf h k v n x × (new ≡ put_tree cmp x t)
IsTreeInsertion cmp h k v n (Some old) t new = (tree_value cmp h k t ≡ Some old) × (new ≡ tree_with_value cmp h k v n t)
