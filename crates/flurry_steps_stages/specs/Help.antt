-- What a call of a shared map that helps a growth does next, as plain data.
use Rattle.std.specs.Prelude.{◌≡◌, ℕ, ◌<◌, Option, Some, None, ⊤, ◌⊎◌}
use Rattle.flurry_bins_slots.specs.Slot.{HasMoved, SlotState, HasMovedInto, Clashes}
use Rattle.flurry_steps_sweep.specs.Part.{Part, ControlPart, MovePart, SeatPart, BoardPart, GivePart}
use Rattle.flurry_steps_control.specs.Claim.{ClaimState, next_of, moved_range, moved_on}
use Rattle.flurry_base.specs.declared.sizes.TheConstants.{MAX_TABLE}
use Rattle.flurry_steps_claims.specs.Range.{Bounds}
use Rattle.flurry_steps_sweep.specs.declared.step.Event.{Event}
use Rattle.flurry_steps_sweep.specs.declared.step.Event.TheVariants.{Silent, Moved}

-- what a call that helps a growth does next; a growth is named by the table that it moves into the next one
pub data Help : Type 0 where
  -- it takes a seat at the board of that growth
  WantsSeat : ℕ → Help
  -- it claims a range there
  AtBoard : ℕ → Help
  -- it moves the bins of its claim, and reports the range once all have moved
  Moving : ClaimState → Help
  -- it publishes the table after that one
  Publishing : ℕ → Help
  -- it gives its seat back
  GivesBack : ℕ → Help

-- of a claim of table e: the bin to move next, or the board once all have moved
abbrev pub move_part : ℕ → Option (ℕ × ℕ) → Part
move_part e None = BoardPart e
move_part e (Some b) = MovePart b.0 b.1

abbrev pub help_part : Help → Part
help_part (WantsSeat e) = SeatPart e
help_part (AtBoard e) = BoardPart e
help_part (Moving c) = move_part c.range.table (next_of c)
help_part (Publishing e) = ControlPart
help_part (GivesBack e) = GivePart e

-- the table that a helper moves into the next one
abbrev pub helped_table : Help → ℕ
helped_table (WantsSeat e) = e
helped_table (AtBoard e) = e
helped_table (Moving c) = c.range.table
helped_table (Publishing e) = e
helped_table (GivesBack e) = e

-- it helps the growth from a table after which there is another; a claim keeps that of its own
abbrev pub HelpIsReady : Help → Type 0
HelpIsReady (Moving c) = ⊤
HelpIsReady h = helped_table h < MAX_TABLE

-- the range that a helper is to report
abbrev pub help_range : Help → Option Bounds
help_range (Moving c) = moved_range c
help_range _ = None

-- without its claim, it goes on as if its report was not the last
abbrev pub unclaimed : Help → Help
unclaimed (Moving c) = AtBoard c.range.table
unclaimed h = h

-- a helper that publishes a table
abbrev pub IsPublishing : Help → Type 0
IsPublishing (Publishing e) = ⊤
IsPublishing _ = ⊥

-- the next bin of the claim has moved
abbrev pub moved_help : Help → Help
moved_help (Moving c) = Moving (moved_on c)
moved_help h = h

-- the step of p at the slot q and its halves: the bin moves, or had moved before, and p goes on; or nothing can be moved, and nothing
-- changes
abbrev pub MovesOn : {P K V : Type 0} → (P → P) → P → SlotState K V → SlotState K V → SlotState K V → Event → P → SlotState K V → SlotState K V → SlotState K V → Type 0
MovesOn on p q low high (Moved e i) p' q' low' high' = (e ≡ q.table) × (i ≡ q.index) × HasMovedInto q low high q' low' high' × (p' ≡ on p)
MovesOn on p q low high Silent p' q' low' high' =
    (q' ≡ q) × (low' ≡ low) × (high' ≡ high) × (((q.content ≡ HasMoved) × (p' ≡ on p)) ⊎ (Clashes q low high × (p' ≡ p)))
MovesOn on p q low high _ p' q' low' high' = ⊥
