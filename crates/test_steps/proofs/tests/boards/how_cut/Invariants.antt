use Rattle.flurry_steps_claims.specs.ClaimBoard.{IsSeatOf}
use Rattle.test_steps.proofs.tests.boards.how_cut.Given as goal

abbrev pub invariant-loop-number : goal.invariant-loop-number
invariant-loop-number g l = IsSeatOf l.board l.seat
