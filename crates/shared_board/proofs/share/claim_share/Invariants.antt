use Rattle.std.proofs.Common.{◌≡◌, ◌-◌, ◌≤◌, ◌<◌, true}
use Rattle.flurry_steps_claims.specs.ClaimBoard.{notes_of}
use Rattle.flurry_steps_claims.specs.ClaimBoard.{IsSeatOf, ranges_of}
use Rattle.shared_board.proofs.share.claim_share.Given as goal

abbrev pub invariant-loop-range : goal.invariant-loop-range
invariant-loop-range l = IsSeatOf l.board l.seat × ((notes_of l.seat).claims ≡ l.numbers.items) × (l.was_last ≡ true → 0 < (notes_of l.seat).last_reports) × ((notes_of l.seat).next ≤ ranges_of l.board)

abbrev pub decreases-loop-range : goal.decreases-loop-range
decreases-loop-range l = ranges_of l.board - (notes_of l.seat).next
