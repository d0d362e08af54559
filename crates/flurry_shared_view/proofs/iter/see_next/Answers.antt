use Rattle.std.proofs.Common.{rules}
use Rattle.flurry_steps_sweep.specs.OutcomeView.{outcome_of}
use Rattle.flurry_shared_view.proofs.WalkLaws.{can_end, no_other}
use Rattle.flurry_shared_view.proofs.iter.see_next.Goals as goal

pub unreachable-requires : goal.unreachable-requires
unreachable-requires g c =
    no_other c.in-Some.reply (can_end g.K.Ord.cmp c.args.walk.now c.read_next.new.walk (outcome_of c.in-Some.reply) c.requires (c.in-Some.ensures {u = tt})) c.in_default-reply.not-Ended c.in_default-reply.not-Refused

pub returns-in-Refused : goal.returns-in-Refused
returns-in-Refused g c = search rules
