use Rattle.flurry_steps_sweep.specs.OutcomeView.{outcome_of}
use Rattle.flurry_shared_replies.proofs.BeginLaws.{counted_at, done_by, goes_on}
use Rattle.flurry_shared_replies.proofs.first.count_and_finish.Goals as goal

pub returns-in-Ok : goal.returns-in-Ok
returns-in-Ok g c =
    done_by g.K.Ord.cmp g.F.ComputeFn.changes (outcome_of c.in-Ok.reply) _ _ _
    (counted_at g.K.Ord.cmp g.F.ComputeFn.changes c.args.hash c.args.processors _ _ _ c.deref_mut.result.now c.on_tally.new.tally (rw c.in-Ok.ensures at c.on_tally.ensures))

pub returns-in-Err : goal.returns-in-Err
returns-in-Err g c =
    goes_on g.K.Ord.cmp g.F.ComputeFn.changes (outcome_of c.drive_ending.result) _ _
    (counted_at g.K.Ord.cmp g.F.ComputeFn.changes c.args.hash c.args.processors _ _ _ c.deref_mut.result.now c.on_tally.new.tally c.on_tally.ensures)
    (rw c.in-Err.ensures.0 at c.drive_ending.ensures)
