-- What contracts see of a call in progress.
use Rattle.flurry_steps.specs.declared.party.first.WholeMapCall.{WholeMapCall}
use Rattle.flurry_steps.specs.declared.party.single.Single.TheInside.{Inside}
use Rattle.flurry_steps_stages.specs.StageView.{stage_of}
use Rattle.flurry_steps.specs.Party.{PartyState}
use Rattle.flurry_base.specs.declared.call.Call as plain_call_type
use Rattle.flurry_base.specs.declared.call.Call.TheVariants as plain
use Rattle.flurry_steps.specs.declared.party.first.WholeMapCall.TheVariants as whole

-- a call without a key, as plain data
abbrev pub plain_of_whole : {K V F : Type 0} → WholeMapCall → plain_call_type.Call K V F
plain_of_whole (whole.Reserve n) = plain.Reserve n
plain_of_whole whole.Clear = plain.Clear
plain_of_whole whole.Walk = plain.Walk

module _ {Q K V F A : Type 0} (stands_for : Q → K) where
  abbrev pub single_state_of : Inside Q K V F A → PartyState K V F
  single_state_of p = record { hash = p.hash; processors = p.processors; helped = p.helped; stage = stage_of stands_for p.stage }
