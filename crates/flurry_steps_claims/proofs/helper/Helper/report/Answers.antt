use Rattle.std.proofs.Common.{rules, ap, subst, ◌∙◌}
use Rattle.flurry_steps_claims.specs.declared.seat_notes.SeatNotes.{SeatNotes}
use Rattle.flurry_steps_claims.specs.ClaimBoard.{BoardValue, notes_of, Reports}
use Rattle.flurry_steps_claims.proofs.helper.Helper.report.Goals as goal

pub returns-in-Some-clause-report : goal.returns-in-Some-clause-report
returns-in-Some-clause-report g c _ =
    let board = c.deref-in-Some.ensures ∙ ap (λ h. h.board) c.self.view_is in
    let reports = λ (b : BoardValue × SeatNotes). Reports b.0 b.1 c.args.range.number c.report.result (notes_of c.report.new.seat) in
    (subst reports (λ i. (board i, notes_of (c.self.view_is i).seat)) c.report.ensures.report, search rules)
