use Rattle.flurry_steps_claims.specs.ClaimBoard.{ranges_of}
use Rattle.flurry_steps_claims.proofs.claim_board.ClaimBoard.merge.Given as goal

abbrev pub ghosts-load : goal.ghosts-load
ghosts-load g a = record { ranges = ranges_of a.self.now; number = 0 }
