use Rattle.std.proofs.Common.{◌≡◌, ◌≤◌, ℕ, subst, sym, ap, ◌∙◌, arith}
use Rattle.flurry_steps_claims.specs.SeatNotes.{with_next}
use Rattle.flurry_steps_claims.specs.ClaimBoard.{notes_of, ranges_of}
use Rattle.flurry_steps_claims.proofs.BoardLaws.{all_claimed}
use Rattle.flurry_steps_claims.proofs.claim_board.ClaimBoard.try_claim.Goals as goal

pub returns-then-next-self-clause-claim : goal.returns-then-next-self-clause-claim
returns-then-next-self-clause-claim g c =
    let gives = c.load-next.ensures.gives in
    let ranges = ranges_of c.args.self.now in
    let count : c.self.inside.ranges ≡ ranges = c.self.invariant.cut ∙ ap ranges_of c.self.view_is in
    let all : c.load-next.result ≡ ranges = omega (arith, count, gives.2, c.if-next-self.true) in
    let now = gives.3.0 in
    let before = notes_of c.args.seat.now in
    let after = notes_of c.load-next.new.seat in
    let known : before.next ≤ after.next = subst (λ (n : ℕ). before.next ≤ n) (sym (ap (λ v. v.next) gives.0)) gives.1 in (
      gives.0 ∙ ap (with_next before) all,
      known,
      (now, all_claimed ranges now.next now.reports now.seats now.board (gives.3.1 ∙ all)),
    )
