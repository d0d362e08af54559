-- The parts of a shared map.
use Rattle.std.specs.Prelude.{ℕ}

-- the part of the map that a call needs next
pub data Part : Type 0 where
  ControlPart : Part
  LookPart : ℕ → ℕ → Part
  BinPart : ℕ → ℕ → Part
  MovePart : ℕ → ℕ → Part
  SeatPart : ℕ → Part
  BoardPart : ℕ → Part
  GivePart : ℕ → Part
  NoPart : Part
