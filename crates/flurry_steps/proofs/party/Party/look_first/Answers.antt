use Rattle.std.proofs.Common.{refl}
use Rattle.flurry_steps.proofs.Decisions.{look_done}
use Rattle.flurry_steps.proofs.Singles.{not_done}
use Rattle.flurry_steps.proofs.party.Party.look_first.Goals as goal

pub returns-clause-steps : goal.returns-clause-steps
returns-clause-steps g c = record {
  event = c.step_lookup-stage.result.1;
  table = refl;
  index = refl;
  step = rw (c.in-Ok-Find.ensures, c.in-Ok-Find.field-0-is, ← c.table.ensures.value) (rw c.in-Done.is at c.step_lookup-stage.ensures.step);
}

pub unreachable-requires-in_default-stage : goal.unreachable-requires-in_default-stage
unreachable-requires-in_default-stage g c =
    let done = look_done g.K.Ord.cmp g.F.ComputeFn.changes _ _ _ _ _ _ _ _ c.requires.live c.step_lookup-stage.ensures.step in
    not_done g.Q.Query.stands_for c.step_lookup-stage.result.0 c.in_default-stage.not-Done done.0 done.1
