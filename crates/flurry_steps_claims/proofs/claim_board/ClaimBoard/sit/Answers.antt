use Rattle.std.proofs.Common.{rules}
use Rattle.flurry_steps_claims.specs.SeatNotes.{new_notes}
use Rattle.flurry_steps_claims.proofs.StepLaws.{sit_allowed}
use Rattle.flurry_steps_claims.proofs.claim_board.ClaimBoard.sit.Goals as goal

pub load_new_seat-requires : goal.load_new_seat-requires
load_new_seat-requires g c = (search rules, sit_allowed _ _ new_notes)
