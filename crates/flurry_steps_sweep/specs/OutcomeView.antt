-- What contracts see of what a call answers.
use Rattle.std.specs.Option.{option_map}
use Rattle.std.specs.Arc.{arc_value}
use Rattle.std.specs.declared.sync.Arc.{Arc}
use Rattle.flurry_base.specs.declared.reply.KeptReply.TheVariants as kept
use Rattle.flurry_steps_sweep.specs.Outcome.{Outcome, OutcomeReply, OutcomeEnded, OutcomeRefused}
use Rattle.flurry_steps_sweep.specs.declared.reply.Reply.{Reply}
use Rattle.flurry_steps_sweep.specs.declared.reply.Reply.TheVariants as reply

module _ {K V A : Type 0} where
  -- the stored key and its value, out of what owns them
  abbrev pub pair_value : Arc K A × Arc V A → K × V
  pair_value p = (arc_value p.0, arc_value p.1)

  abbrev pub outcome_of : Reply K V A → Outcome K V
  outcome_of (reply.Value v) = OutcomeReply (kept.Value (option_map arc_value v))
  outcome_of (reply.Pair p) = OutcomeReply (kept.Pair (option_map pair_value p))
  outcome_of (reply.Contains b) = OutcomeReply (kept.Contains b)
  outcome_of (reply.New v) = OutcomeReply (kept.New (arc_value v))
  outcome_of (reply.Changed new old) = OutcomeReply (kept.Changed (arc_value new) (arc_value old))
  outcome_of (reply.Exists e) = OutcomeReply (kept.Exists (arc_value e.current) e.not_inserted)
  outcome_of reply.Ended = OutcomeEnded
  outcome_of reply.Refused = OutcomeRefused
