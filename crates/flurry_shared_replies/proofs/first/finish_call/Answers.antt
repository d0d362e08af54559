use Rattle.flurry_steps.specs.StepClosure.{still}
use Rattle.flurry_steps_sweep.specs.OutcomeView.{outcome_of}
use Rattle.flurry_shared_replies.proofs.BeginLaws.{done_by}
use Rattle.flurry_shared_replies.proofs.first.finish_call.Goals as goal

pub returns-in-Ok : goal.returns-in-Ok
returns-in-Ok g c = rw c.in-Ok.ensures (done_by g.K.Ord.cmp g.F.ComputeFn.changes (outcome_of c.in-Ok.reply) _ _ _ still)
