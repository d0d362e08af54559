use Rattle.std.proofs.Common.{ap, subst, ◌∙◌}
use Rattle.flurry_steps_claims.specs.declared.seat_notes.SeatNotes.{SeatNotes}
use Rattle.flurry_steps_claims.specs.declared.range.Attempt.TheVariants.{Nothing}
use Rattle.flurry_steps_claims.specs.ClaimBoard.{BoardValue, notes_of, Claims}
use Rattle.flurry_steps_claims.proofs.helper.Helper.try_claim.Goals as goal

pub returns-in-Nothing-clause-claim : goal.returns-in-Nothing-clause-claim
returns-in-Nothing-clause-claim g c =
    let board = c.deref.ensures ∙ ap (λ h. h.board) c.self.view_is in
    let claims = λ (b : BoardValue × SeatNotes). Claims b.0 b.1 Nothing (notes_of c.try_claim.new.seat) in
    subst claims (λ i. (board i, notes_of (c.self.view_is i).seat)) c.in-Nothing.ensures.claim
