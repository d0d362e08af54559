use Rattle.flurry_steps_sweep.specs.OutcomeView.{outcome_of}
use Rattle.flurry_shared_replies.proofs.BeginLaws.{goes_on}
use Rattle.flurry_shared_replies.proofs.first.write_at_table.Goals as goal

pub returns-in-Ok : goal.returns-in-Ok
returns-in-Ok g c =
    goes_on g.K.Ord.cmp g.F.ComputeFn.changes (outcome_of c.finish_call.result) _ _ ((rw c.in-Ok.is at c.try_write_bin.ensures) c.args.processors) c.finish_call.ensures
