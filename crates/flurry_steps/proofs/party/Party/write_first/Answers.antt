use Rattle.flurry_steps.proofs.Decisions.{live_decides}
use Rattle.flurry_steps.proofs.party.Party.write_first.Goals as goal

pub of_stage-requires-clause-decided : goal.of_stage-requires-clause-decided
of_stage-requires-clause-decided g c = live_decides g.K.Ord.cmp g.F.ComputeFn.changes _ _ _ _ _ _ _ c.requires.live c.step_write-stage.ensures.step

pub returns-clause-steps : goal.returns-clause-steps
returns-clause-steps g c = record {
  event = c.step_write-stage.result.1;
  table = c.step_write-stage.ensures.table;
  index = c.step_write-stage.ensures.index;
  step = rw (c.in-Ok.ensures, ← c.table.ensures.value, c.of_stage.ensures) c.step_write-stage.ensures.step;
}
