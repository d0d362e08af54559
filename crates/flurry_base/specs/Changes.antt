-- What a call does that may put, change or remove the pair of a key.
use Rattle.std.specs.Prelude.{◌≡◌, List, Option, Some, None}
use Rattle.std.specs.Arc.{arc_value}
use Rattle.std.specs.declared.cmp.Ordering.{Ordering}
use Rattle.std.specs.declared.sync.Arc.{Arc}
use Rattle.flurry_base.specs.FiniteMap.{with_pair, without}
use Rattle.flurry_base.specs.declared.change.Change.{Change}
use Rattle.flurry_base.specs.declared.change.Change.TheVariants.{Absent, Added, Changed, Removed}

-- the key had the first value, and has the second
abbrev pub IsChange : {V A : Type 0} → Option V → Option V → Change V A → Type 0
IsChange None None c = c ≡ Absent
IsChange None (Some w) c = (a : Arc _ _) × (c ≡ Added a) × (arc_value a ≡ w)
IsChange (Some v) (Some w) c = (a : Arc _ _) × (c ≡ Changed a) × (arc_value a ≡ w)
IsChange (Some v) None c = (a : Arc _ _) × (c ≡ Removed a) × (arc_value a ≡ v)

-- the map in which the key has this value, or is absent
abbrev pub with_or_without : {K V : Type 0} → (K → K → Ordering) → List (K × V) → K → Option V → List (K × V)
with_or_without cmp m k None = without cmp m k
with_or_without cmp m k (Some w) = with_pair cmp m k w
