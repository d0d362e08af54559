use Rattle.std.proofs.Common.{ap, sym}
use Rattle.flurry_steps.specs.Field.{BoardLoan, board_of}
use Rattle.flurry_steps.specs.PartyBoard.{Attempted, Reported}
use Rattle.flurry_steps.proofs.Boards.{reported}
use Rattle.flurry_shared_locks.proofs.call_field.CallFieldField.at_board.Goals as goal

pub returns-in-Some : goal.returns-in-Some
returns-in-Some g c = record {
  loan = BoardLoan c.args.table (Reported c.in-Some.range c.report-last.result);
  lent = c.report-last.ensures;
  step = (ap board_of c.requires, reported c.args.party.now _ _ _ _ _ (sym c.in-Some.ensures.value) c.in-Some.ensures.some c.on_report.ensures.silent c.on_report.ensures.told);
}

pub returns : goal.returns
returns g c = record {
  loan = BoardLoan c.args.table (Attempted c.try_claim-attempt.result);
  lent = c.try_claim-attempt.ensures.lock_field;
  step = (ap board_of c.requires, rw c.in_default.ensures.none at c.on_attempt.ensures);
}
