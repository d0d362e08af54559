use Rattle.std.proofs.Common.{ap}
use Rattle.flurry_steps.specs.Field.{BoardLoan, board_of}
use Rattle.flurry_steps.specs.PartyBoard.{TakenBack}
use Rattle.flurry_shared_locks.proofs.call_field.CallFieldField.at_give.Goals as goal

pub returns : goal.returns
returns g c = record {
  loan = BoardLoan c.args.table TakenBack;
  lent = c.give_back.ensures;
  step = (ap board_of c.requires, c.on_give.ensures);
}
