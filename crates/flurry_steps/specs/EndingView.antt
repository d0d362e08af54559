-- What contracts see of a call whose reply is known.
use Rattle.flurry_steps.specs.PartyTally.{EndingState}
use Rattle.flurry_steps_sweep.specs.OutcomeView.{outcome_of}
use Rattle.flurry_steps.specs.declared.party.ending.Ending.TheInside.{Inside}

abbrev pub ending_of : {K V A : Type 0} → Inside K V A → EndingState K V
ending_of e = record { rest = e.rest; reply = outcome_of e.reply }
