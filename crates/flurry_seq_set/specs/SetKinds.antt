-- Calls of an owned set by what they do.
use Rattle.flurry_seq_set.specs.declared.set_calls.SetCall.{SetCall}
use Rattle.flurry_seq_set.specs.declared.set_calls.SetCall.TheVariants.{Contains, Get, Insert, Remove, Take, Retain, Len, IsEmpty, Elements, IsDisjoint, IsSubset, IsSuperset, Equals, TryClone, Clear, Reserve, Extend}

module _ {T S P A : Type 0} where
  -- it reads, and takes no memory
  abbrev pub Reads : SetCall T S P A → Type 0
  Reads (Contains x) = Unit {0}
  Reads Len = Unit {0}
  Reads IsEmpty = Unit {0}
  Reads (IsDisjoint other) = Unit {0}
  Reads (IsSubset other) = Unit {0}
  Reads (IsSuperset other) = Unit {0}
  Reads (Equals other) = Unit {0}
  Reads call = ⊥

  -- it answers further owners of what the set has
  abbrev pub Shares : SetCall T S P A → Type 0
  Shares (Get x) = Unit {0}
  Shares Elements = Unit {0}
  Shares TryClone = Unit {0}
  Shares call = ⊥

  -- it puts or takes one element
  abbrev pub Writes : SetCall T S P A → Type 0
  Writes (Insert x) = Unit {0}
  Writes (Remove x) = Unit {0}
  Writes (Take x) = Unit {0}
  Writes call = ⊥

  -- it may change many elements, or the table
  abbrev pub ChangesMany : SetCall T S P A → Type 0
  ChangesMany (Retain p) = Unit {0}
  ChangesMany Clear = Unit {0}
  ChangesMany (Reserve a) = Unit {0}
  ChangesMany (Extend list) = Unit {0}
  ChangesMany call = ⊥
