use Rattle.flurry_steps_claims.specs.ClaimBoard.{ranges_of}
use Rattle.flurry_steps_claims.proofs.claim_board.ClaimBoard.report.Given as goal

abbrev pub ghosts-add : goal.ghosts-add
ghosts-add g a = record { ranges = ranges_of a.self.now; number = a.range.number }
