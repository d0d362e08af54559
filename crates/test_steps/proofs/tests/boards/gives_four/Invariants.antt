use Rattle.flurry_steps_claims.specs.ClaimBoard.{IsSeatOf}
use Rattle.test_steps.proofs.tests.boards.gives_four.Given as goal

abbrev pub invariant-loop-wanted : goal.invariant-loop-wanted
invariant-loop-wanted g l = IsSeatOf l.board l.seat
