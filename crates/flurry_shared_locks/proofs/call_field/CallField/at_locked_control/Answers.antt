use Rattle.std.proofs.Common.{rules}
use Rattle.flurry_steps.specs.Field.{ControlLoan}
use Rattle.flurry_shared_locks.proofs.call_field.CallField.at_locked_control.Goals.{in-Board, in_default-want}
use Rattle.flurry_shared_locks.proofs.call_field.CallField.at_locked_control.Goals as goal

pub returns : goal.returns
returns g c = record {
  loan = ControlLoan c.deref_mut.result.now c.new-room.result c.on_control-event.new.control c.on_control-event.new.room;
  lent = elim c.match-want.branch [ in-Board w ↦ search rules | in_default-want w ↦ search rules ];
  step = (c.requires, c.on_control-event.ensures);
}
