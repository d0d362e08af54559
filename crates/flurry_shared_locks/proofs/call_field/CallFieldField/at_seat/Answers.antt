use Rattle.std.proofs.Common.{ap}
use Rattle.flurry_steps.specs.Field.{BoardLoan, board_of}
use Rattle.flurry_steps.specs.PartyBoard.{Seated}
use Rattle.flurry_shared_locks.proofs.call_field.CallFieldField.at_seat.Goals as goal

pub returns : goal.returns
returns g c = record {
  loan = BoardLoan c.args.table (Seated c.take_helper-got.result);
  lent = c.take_helper-got.ensures;
  step = (ap board_of c.requires, c.on_seat.ensures);
}
