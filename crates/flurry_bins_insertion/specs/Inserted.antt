-- What an insertion into a bin did, as plain data.
use Rattle.std.specs.Prelude.{Bool, false, Option, Some, None, ⊤}
use Rattle.std.specs.declared.sync.Arc.{Arc}
use Rattle.flurry_base.specs.declared.given.Replaced.{Replaced}
use Rattle.flurry_bins_insertion.specs.declared.table.Inserted.{Inserted}
use Rattle.flurry_bins_insertion.specs.declared.table.Inserted.TheVariants.{New, Replaced as WasReplaced}

module _ {K V A : Type 0} where
  -- the value that the key had
  abbrev pub replaced_by : Inserted K V A → Option (Arc V A)
  replaced_by (New asks) = None
  replaced_by (WasReplaced r) = Some r.old

  -- whether a larger table is asked for
  abbrev pub asks_by : Inserted K V A → Bool
  asks_by (New asks) = asks
  asks_by (WasReplaced r) = false

  -- P holds of what came back, where the key was present
  abbrev pub IfReplaced : Inserted K V A → (Replaced K V A → Type 0) → Type 0
  IfReplaced (New asks) P = ⊤
  IfReplaced (WasReplaced r) P = P r
