use Rattle.std.proofs.Common.{◌-◌, ◌≤◌, All, vec_len, vec_capacity}
use Rattle.flurry_steps_claims.specs.ClaimBoard.{IsNewSeatOf}
use Rattle.flurry_steps_claims.proofs.claim_board.ClaimBoard.sit_all.Given as goal

abbrev pub invariant-loop-all : goal.invariant-loop-all
invariant-loop-all g l = (vec_len l.all ≤ l.seats) × (l.seats ≤ vec_capacity l.all) × All (IsNewSeatOf l.self) l.all.items

abbrev pub decreases-loop-all : goal.decreases-loop-all
decreases-loop-all g l = l.seats - vec_len l.all
