-- A slot, and what its steps answer, as plain data.
use Rattle.std.specs.Prelude.{◌≡◌, ⊤}
use Rattle.flurry_bins_slots.specs.Slot.{SlotState, Content, Live, IsLive, HasMoved, IsUnborn}
use Rattle.flurry_bins_slots.specs.declared.slot.Answer.{Answer}
use Rattle.flurry_bins_slots.specs.declared.slot.Answer.TheVariants.{Here, Moved, Unborn}
use Rattle.flurry_bins_slots.specs.declared.slot.State.{State}
use Rattle.flurry_bins_slots.specs.declared.slot.State.TheVariants as state
use Rattle.flurry_bins_slots.specs.declared.slot.MoveAnswer.{MoveAnswer}
use Rattle.flurry_bins_slots.specs.declared.slot.MoveAnswer.TheVariants.{Done, Already, Clash}
use Rattle.flurry_bins_slots.specs.declared.slot.Receipt.{Receipt}
use Rattle.flurry_bins_slots.specs.declared.slot.Slot.TheInside.{Inside}

abbrev pub content_of : {K V : Type 0} → State → Live K V → Content K V
content_of state.Live b = IsLive b
content_of state.Moved b = HasMoved
content_of state.Unborn b = IsUnborn

abbrev pub place_of : {K V A : Type 0} → Inside K V A → SlotState K V
place_of s = record { table = s.table; index = s.index; content = content_of s.state s.live }

-- a step answers f of the live bin, or what was lent in
abbrev pub answer_with : {K V T B : Type 0} → Content K V → (Live K V → T) → B → Answer T B
answer_with (IsLive b) f lent = Here (f b)
answer_with HasMoved f lent = Moved lent
answer_with IsUnborn f lent = Unborn lent

abbrev pub answer_map : {T U B : Type 0} → (T → U) → Answer T B → Answer U B
answer_map f (Here x) = Here (f x)
answer_map f (Moved b) = Moved b
answer_map f (Unborn b) = Unborn b

-- P holds of what a live bin answered
abbrev pub IfHere : {T B : Type 0} → Answer T B → (T → Type 0) → Type 0
IfHere (Here x) P = P x
IfHere _ P = ⊤

-- P holds where no bin was live
abbrev pub IfAway : {T B : Type 0} → Answer T B → Type 0 → Type 0
IfAway (Here x) P = ⊤
IfAway _ P = P

-- what was lent in came back, since the bin moved or is not there yet
abbrev pub IsAway : {T B K V : Type 0} → Answer T B → Content K V → B → Type 0
IsAway (Here x) c lent = ⊤
IsAway (Moved b) c lent = (b ≡ lent) × (c ≡ HasMoved)
IsAway (Unborn b) c lent = (b ≡ lent) × (c ≡ IsUnborn)

abbrev pub IfDone : MoveAnswer → (Receipt → Type 0) → Type 0
IfDone (Done r) P = P r
IfDone _ P = ⊤

abbrev pub IfAlready : MoveAnswer → (Receipt → Type 0) → Type 0
IfAlready (Already r) P = P r
IfAlready _ P = ⊤

abbrev pub IfClash : MoveAnswer → Type 0 → Type 0
IfClash Clash P = P
IfClash _ P = ⊤

abbrev pub IfNotDone : MoveAnswer → Type 0 → Type 0
IfNotDone (Done r) P = ⊤
IfNotDone _ P = P
