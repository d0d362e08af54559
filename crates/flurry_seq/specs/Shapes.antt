-- What the shape of a bin says.
use Rattle.std.specs.Prelude.{ℕ, ◌<◌, ◌≤◌}
use Rattle.flurry_base.specs.declared.sizes.TheConstants.{MAX_LIST_LEN, MIN_TREE_LEN}
use Rattle.flurry_bins.specs.declared.bin.adaptive.Shape.{Shape}
use Rattle.flurry_bins.specs.declared.bin.adaptive.Shape.TheVariants as shape

-- how many entries it has
abbrev pub count_in : Shape → ℕ
count_in shape.Empty = 0
count_in (shape.List n) = n
count_in (shape.Tree n) = n

-- a list has from one entry to the most of a list, and a tree at least the least of a tree
abbrev pub IsFit : Shape → Type 0
IsFit shape.Empty = Unit {0}
IsFit (shape.List n) = (0 < n) × (n ≤ MAX_LIST_LEN)
IsFit (shape.Tree n) = MIN_TREE_LEN ≤ n
