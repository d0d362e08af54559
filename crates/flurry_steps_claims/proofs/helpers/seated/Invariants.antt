use Rattle.std.proofs.Common.{◌≡◌, ◌+◌, All, length, vec_len}
use Rattle.std.specs.Arc.{arc_value}
use Rattle.flurry_steps_claims.specs.ClaimBoard.{IsSeatOf}
use Rattle.flurry_steps_claims.proofs.helpers.seated.Given as goal

abbrev pub invariant-loop-seat : goal.invariant-loop-seat
invariant-loop-seat g l = All (IsSeatOf (arc_value l.board)) l.seats.items × (length l.all.items + vec_len l.seats ≡ vec_len l.initial.seats)

abbrev pub decreases-loop-seat : goal.decreases-loop-seat
decreases-loop-seat g l = vec_len l.seats
