-- A call of a shared map in progress, as plain data.
use Rattle.std.specs.Prelude.{◌≡◌, ℕ, ◌^◌, ◌≤◌, Option}
use Rattle.flurry_base.specs.Sizes.{wanted_of}
use Rattle.flurry_steps_sweep.specs.Part.{Part}
use Rattle.flurry_base.specs.declared.sizes.TheConstants.{MAX_TABLE}
use Rattle.flurry_steps_stages.specs.Stage.{Stage, part_of}

-- a call in progress: the hash of its key, how many processors share the work of a growth, the growth that it helped last or found no
-- seat for, and where it stands
pub record PartyState (K V F : Type 0) : Type 0 where
  pub hash : ℕ
  pub processors : ℕ
  pub helped : Option ℕ
  pub stage : Stage K V F

abbrev pub wanted_part : {K V F : Type 0} → PartyState K V F → Part
wanted_part p = part_of p.hash p.stage

abbrev pub with_stage : {K V F : Type 0} → PartyState K V F → Stage K V F → PartyState K V F
with_stage p s = record { hash = p.hash; processors = p.processors; helped = p.helped; stage = s }

-- the exponent w of the table that is made for so many pairs
pub record IsTableFor (pairs w : ℕ) : Type 0 where
  pub bins : 2 ^ w ≡ wanted_of pairs
  pub within : w ≤ MAX_TABLE
