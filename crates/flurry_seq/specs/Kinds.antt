-- Calls of an owned map by what they do.
use Rattle.flurry_seq.specs.declared.calls.Call.{Call}
use Rattle.flurry_seq.specs.declared.calls.Call.TheVariants.{Get, GetKeyValue, ContainsKey, Len, IsEmpty, Capacity, ShapeOf, Pairs, Keys, Values, Equals, TryClone, Insert, TryInsert, ComputeIfPresent, Remove, RemoveEntry, Retain, RetainForce, Clear, Reserve, Extend}

module _ {K V S F P A : Type 0} where
  -- it reads, and takes no memory
  abbrev pub Reads : Call K V S F P A → Type 0
  Reads (ContainsKey k) = Unit {0}
  Reads Len = Unit {0}
  Reads IsEmpty = Unit {0}
  Reads Capacity = Unit {0}
  Reads (ShapeOf h) = Unit {0}
  Reads (Equals other) = Unit {0}
  Reads call = ⊥

  -- it answers further owners of what the map has
  abbrev pub Shares : Call K V S F P A → Type 0
  Shares (Get k) = Unit {0}
  Shares (GetKeyValue k) = Unit {0}
  Shares Pairs = Unit {0}
  Shares Keys = Unit {0}
  Shares Values = Unit {0}
  Shares TryClone = Unit {0}
  Shares call = ⊥

  -- it writes at one key
  abbrev pub Writes : Call K V S F P A → Type 0
  Writes (Insert k v) = Unit {0}
  Writes (TryInsert k v) = Unit {0}
  Writes (ComputeIfPresent k f) = Unit {0}
  Writes (Remove k) = Unit {0}
  Writes (RemoveEntry k) = Unit {0}
  Writes call = ⊥

  -- it may change many pairs, or the table
  abbrev pub ChangesMany : Call K V S F P A → Type 0
  ChangesMany (Retain p) = Unit {0}
  ChangesMany (RetainForce p) = Unit {0}
  ChangesMany Clear = Unit {0}
  ChangesMany (Reserve a) = Unit {0}
  ChangesMany (Extend list) = Unit {0}
  ChangesMany call = ⊥
