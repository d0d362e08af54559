-- What contracts see of parts beside a table that was published.
use Rattle.flurry_steps.specs.Field.{Loan}
use Rattle.flurry_steps_sweep.specs.Part.{Part}
use Rattle.flurry_steps_world.specs.Parts.{Parts, IsOwn, OwnLacks}
use Rattle.flurry_steps_world.specs.Tables.{Tables}
use Rattle.beside_field.specs.declared.beside.Beside.{Beside}

module _ {K V A : Type 0} where
  abbrev pub parts_of : Beside K V A → Parts K V
  parts_of b = b.parts

  abbrev pub BesideLends : Beside K V A → Loan K V (Tables K V) → Beside K V A → Type 0
  BesideLends s l s' = IsOwn (λ r. r) (parts_of s) l (parts_of s')

  abbrev pub BesideLacks : Beside K V A → Part → Type 0
  BesideLacks s p = OwnLacks (parts_of s) p
