-- What an address owns.
use base.Fml.{Fml, ftrue}
use denote.RattleType.{RattleType}
use denote.RawPtr.{Ptr}
use Rattle.std.specs.Box.Ownership.{box_owns}
use Rattle.std.specs.Global.{Global}
use Rattle.std.specs.Prelude.{Option, None, Some}
use Rattle.std.specs.contracts.impls.GlobalAllocator.TheImpl.{ghosts}

-- what a `Box` of the value there does
abbrev pub owns : (X : RattleType) → Global → Ptr → X.Denot → Fml
owns X alloc at value = box_owns (ghosts.dealloc_token alloc) X at value

-- the same where there is a value, and nothing where there is none
abbrev pub slot_owns : (X : RattleType) → Global → Ptr → Option X.Denot → Fml
slot_owns X alloc at None = ftrue
slot_owns X alloc at (Some value) = owns X alloc at value
