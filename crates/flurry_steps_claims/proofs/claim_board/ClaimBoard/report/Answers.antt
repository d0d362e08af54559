use Rattle.std.proofs.Common.{◌+◌, ℕ, ap, eqb, subst, sym, ◌∙◌}
use Rattle.flurry_steps_claims.specs.ClaimBoard.{notes_of, ranges_of, Reports}
use Rattle.flurry_steps_claims.proofs.claim_board.ClaimBoard.report.Goals as goal

pub returns-clause-report : goal.returns-clause-report
returns-clause-report g c =
    let gives = c.add.ensures.gives in
    let board = c.args.self.now in
    let count = sym (c.self.invariant.cut ∙ ap ranges_of c.self.view_is) in
    subst (λ (n : ℕ). Reports board (notes_of c.args.seat.now) c.args.range.number (eqb (c.add.result + 1) n) (notes_of c.add.new.seat)) count (gives.0, gives.2)
