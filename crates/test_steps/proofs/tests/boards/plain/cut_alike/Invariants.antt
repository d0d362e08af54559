use Rattle.flurry_steps_claims.specs.ClaimBoard.{IsSeatOf}
use Rattle.test_steps.proofs.tests.boards.plain.cut_alike.Given as goal

abbrev pub invariant-loop : goal.invariant-loop
invariant-loop l = IsSeatOf l.board l.seat
