-- What a call of a shared map answers, as plain data.
use Rattle.flurry_base.specs.declared.reply.KeptReply.{KeptReply}

-- what a call answers: the reply of a call of one key, the end of another call, or that memory was wanting
pub data Outcome (K V : Type 0) : Type 0 where
  OutcomeReply : KeptReply K V → Outcome K V
  OutcomeEnded : Outcome K V
  OutcomeRefused : Outcome K V
