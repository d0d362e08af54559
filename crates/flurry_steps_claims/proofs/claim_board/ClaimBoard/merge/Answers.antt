use Rattle.std.proofs.Common.{rules, ap, ◌∙◌, arith}
use Rattle.flurry_steps_claims.specs.declared.seat_notes.SeatNotes.{SeatNotes}
use Rattle.flurry_base.specs.Occurrences.{occurrences}
use Rattle.flurry_steps_claims.specs.ClaimBoard.{notes_of, ranges_of}
use Rattle.flurry_steps_claims.proofs.BoardLaws.{claims_le, last_reports_le, occurrences-append}
use Rattle.flurry_steps_claims.proofs.StepLaws.{join_allowed}
use Rattle.flurry_steps_claims.proofs.claim_board.ClaimBoard.merge.Goals as goal

pub join_seat-requires : goal.join_seat-requires
join_seat-requires g c = (search rules, search rules, search rules, search rules, join_allowed _ _ _ _ _)

pub returns-clause-claims : goal.returns-clause-claims
returns-clause-claims g c = ap (λ v. v.claims) c.load.ensures.gives.0 ∙ ap (λ (m : SeatNotes × _). m.0.claims) c.join_seat.ensures.2

pub returns-clause-reports : goal.returns-clause-reports
returns-clause-reports g c = ap (λ v. v.reports) c.load.ensures.gives.0 ∙ ap (λ (m : SeatNotes × _). m.0.reports) c.join_seat.ensures.2

pub returns-clause-apart : goal.returns-clause-apart
returns-clause-apart g c =
    let gives = c.load.ensures.gives in
    let now = gives.3.0 in
    let v = notes_of c.args.seat.now in
    let w = notes_of c.args.other in
    let both = c.join_seat.ensures.2 in
    let claims = ap (λ v. v.claims) gives.0 ∙ ap (λ (m : SeatNotes × _). m.0.claims) both in
    let last_reports = ap (λ v. v.last_reports) gives.0 ∙ ap (λ (m : SeatNotes × _). m.0.last_reports) both in
    let after = notes_of c.load.new.seat in
    let ranges = ranges_of c.args.self.now in (
      (λ k. omega (arith, claims_le ranges now.next now.reports now.seats now.board now.place after now.is_there k, ap (occurrences k) claims, occurrences-append k v.claims w.claims)),
      omega (arith, last_reports_le ranges now.next now.reports now.seats now.board now.place after now.is_there, last_reports),
    )
