-- What an insertion gives back of what it was given, as plain data.
use Rattle.std.specs.Prelude.{◌≡◌, Bool, true, false, Option, Some, None}
use Rattle.std.specs.Arc.{arc_value}
use Rattle.std.specs.declared.sync.Arc.{Arc}
use Rattle.flurry_base.specs.declared.given.Given.{Given}
use Rattle.flurry_base.specs.declared.given.Given.TheVariants.{Plain, Shared}
use Rattle.flurry_base.specs.declared.given.NotInserted.{NotInserted}
use Rattle.flurry_base.specs.declared.given.Replaced.{Replaced}

module _ {A : Type 0} where
  -- what was given, in an `Arc` or not
  abbrev pub given_of : {T : Type 0} → Given T A → T
  given_of (Plain x) = x
  given_of (Shared c) = arc_value c

  -- whether there is no `Arc` of it yet
  abbrev pub is_plain : {T : Type 0} → Given T A → Bool
  is_plain (Plain x) = true
  is_plain (Shared c) = false

  -- this key and this value come back
  abbrev pub IsNotInserted : {K V : Type 0} → K → V → NotInserted K V A → Type 0
  IsNotInserted k v n = (given_of n.key ≡ k) × (given_of n.value ≡ v)

  -- the value that a key had
  abbrev pub old_of : {K V : Type 0} → Option (Replaced K V A) → Option (Arc V A)
  old_of None = None
  old_of (Some r) = Some r.old
