-- What contracts see of a call in progress, whether it goes over all bins or not.
use Rattle.std.specs.Prelude.{None}
use Rattle.flurry_steps_stages.specs.Stage.{AtSweep}
use Rattle.flurry_steps.specs.Party.{PartyState}
use Rattle.flurry_steps.specs.declared.party.PartyKind.{PartyKind}
use Rattle.flurry_steps.specs.declared.party.PartyKind.TheVariants as kind
use Rattle.flurry_steps.specs.declared.party.Party.TheInside.{Inside}

module _ {Q K V F A : Type 0} where
  abbrev pub kind_state : PartyKind Q K V F A → PartyState K V F
  kind_state (kind.Single p) = p
  kind_state (kind.Sweep h n w) = record { hash = h; processors = n; helped = None; stage = AtSweep w }

  abbrev pub party_state_of : Inside Q K V F A → PartyState K V F
  party_state_of p = kind_state p.kind
