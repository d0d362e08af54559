-- What stands at a slot, as the machine sees it.
use Rattle.std.specs.Prelude.{◌≡◌, ℕ, List, map}
use Rattle.std.specs.List.{AllByRecursion}
use Rattle.std.specs.Map.{keys_of}
use Rattle.flurry_bins_slots.specs.Slot.{PlainEntry, Content, IsLive, HasMoved, IsUnborn}
use Rattle.flurry_steps_theory.specs.Bin.{Entry}
use Rattle.flurry_steps_theory.specs.Machine.{Slot, Live, Moved, Unborn}

module _ {K V : Type 0} where
  -- the machine's entry: its hash is that of its key
  abbrev pub entry_of_held : PlainEntry K V → Entry K V
  entry_of_held x = record { key = x.0.1; value = x.1.0; number = x.1.1 }

  abbrev pub machine_entries : List (PlainEntry K V) → List (Entry K V)
  machine_entries plain_entries = map entry_of_held plain_entries

  -- each entry has its key's hash
  abbrev pub IsHashed : (K → ℕ) → List (PlainEntry K V) → Type 0
  IsHashed hash plain_entries = AllByRecursion (λ (k : ℕ × K). k.0 ≡ hash k.1) (keys_of plain_entries)

  abbrev pub slot_of : Content K V → Slot K V
  slot_of (IsLive b) = Live (machine_entries b.plain_entries) b.writes
  slot_of HasMoved = Moved
  slot_of IsUnborn = Unborn
