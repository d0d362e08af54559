-- A function that was called at an entry.
use Rattle.std.specs.Prelude.{Bool}
use Rattle.std.specs.Borrow.{Bor}
use Rattle.std.specs.Arc.{arc_value}
use Rattle.flurry_base.specs.Keeps.{CalledAtPair}
use Rattle.flurry_bins.specs.declared.bin.entry.Entry.{Entry}

-- at its key and its value
abbrev pub CalledAtEntry : {F K V A : Type 0} → (F → Bor K → Bor V → Bool → F → Type 0) → F → Entry K V A → Bool → F → Type 0
CalledAtEntry step f e answer next = CalledAtPair step f (arc_value e.key, arc_value e.value) answer next
