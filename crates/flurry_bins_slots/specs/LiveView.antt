-- A live bin, and what its steps answer, as plain data.
use Rattle.std.specs.Prelude.{◌≡◌, ℕ, Bool, Option, Some, None, Result, Ok, Err, ⊤}
use Rattle.std.specs.Option.{option_map}
use Rattle.std.specs.Arc.{arc_value}
use Rattle.flurry_bins.specs.declared.bin.adaptive.Bin.{Bin}
use Rattle.flurry_bins.specs.declared.bin.entry.Entry.{Entry}
use Rattle.flurry_bins_insertion.specs.declared.table.Inserted.{Inserted}
use Rattle.flurry_bins_insertion.specs.Inserted.{replaced_by, asks_by}
use Rattle.flurry_bins_slots.specs.declared.live.Added.{Added}
use Rattle.flurry_bins_slots.specs.declared.live.Added.TheVariants.{New, Present}
use Rattle.flurry_bins_slots.specs.declared.live.Computed.{Computed}
use Rattle.flurry_bins_slots.specs.declared.live.alter.Altered.{Altered}
use Rattle.flurry_bins_slots.specs.declared.live.alter.Altered.TheVariants as altered
use Rattle.flurry_bins_slots.specs.declared.live.Computed.TheVariants.{Absent, Removed, Changed}
use Rattle.flurry_bins.specs.Bin.{entries_of_bin, is_tree}
use Rattle.flurry_bins.specs.PlainEntries.{numbered_pair, numbered_pairs}
use Rattle.flurry_bins_slots.specs.Slot.{Live, PlainEntry, ComputeOutcome, WasAbsent, WasRemoved, WasChanged, AlterOutcome, StayedAbsent, WasAdded, WasKept, WasTaken, WasSet}

-- a bin with its count of writes
abbrev pub live_of : {K V A : Type 0} {o : _} {e : _} {p : _} → Bin K V A o e p → ℕ → Live K V
live_of b writes = record { plain_entries = numbered_pairs (entries_of_bin b); tree = is_tree b; writes = writes }

-- an entry of this hash, key, value and write number
abbrev pub IsEntryWith : {K V A : Type 0} → ℕ → K → V → ℕ → Entry K V A → Type 0
IsEntryWith h k v n e = (e.hash ≡ h) × (arc_value e.key ≡ k) × (arc_value e.value ≡ v) × (e.number ≡ n)

-- the old value, and whether a larger table is asked for
abbrev pub view_of_inserted : {K V A : Type 0} → Inserted K V A → Option V × Bool
view_of_inserted w = (option_map arc_value (replaced_by w), asks_by w)

-- the new value and whether a larger table is asked for, or the stored value and the one that was not inserted
abbrev pub view_of_added : {K V A : Type 0} → Added K V A → Result (V × Bool) (V × V)
view_of_added (New v asks) = Ok (arc_value v, asks)
view_of_added (Present k e) = Err (arc_value e.current, e.not_inserted)

-- P holds of the key that was passed in, where it is present
abbrev pub IfPresent : {K V A : Type 0} → Added K V A → (K → Type 0) → Type 0
IfPresent (New v asks) P = ⊤
IfPresent (Present k e) P = P k

abbrev pub outcome : {K V F A : Type 0} → Computed K V F A → ComputeOutcome V
outcome (Absent f) = WasAbsent
outcome (Removed e) = WasRemoved
outcome (Changed new old) = WasChanged (arc_value new)

-- P holds of the function that was not called, where the key is absent
abbrev pub IfAbsent : {K V F A : Type 0} → Computed K V F A → (F → Type 0) → Type 0
IfAbsent (Absent f) P = P f
IfAbsent _ P = ⊤

-- what a computation took out of the entry that there was: the entry itself, or its value
abbrev pub IsLeftOf : {K V F A : Type 0} → Option (PlainEntry K V) → Computed K V F A → Type 0
IsLeftOf there (Absent f) = ⊤
IsLeftOf there (Removed e) = there ≡ Some (numbered_pair e)
IsLeftOf there (Changed new old) = option_map (λ (e : PlainEntry _ _). e.1.0) there ≡ Some (arc_value old)

abbrev pub alteration : {K V A : Type 0} → Altered K V A → AlterOutcome K V
alteration altered.Absent = StayedAbsent
alteration (altered.Added v asks) = WasAdded (arc_value v) asks
alteration altered.Kept = WasKept
alteration (altered.Removed e) = WasTaken (numbered_pair e)
alteration (altered.Changed new old) = WasSet (arc_value new) (arc_value old)

-- that of a function which was not called, since the key is absent
abbrev pub alteration_if_present : {K V F A : Type 0} → Result (Altered K V A) F → AlterOutcome K V
alteration_if_present (Ok a) = alteration a
alteration_if_present (Err f) = StayedAbsent

-- the key that was passed in comes back, unless it was added
abbrev pub key_back : {K V : Type 0} → K → AlterOutcome K V → Option K
key_back k (WasAdded v asks) = None
key_back k _ = Some k
