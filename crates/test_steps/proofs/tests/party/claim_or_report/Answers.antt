use Rattle.std.proofs.Common.{sym, subst}
use Rattle.flurry_steps.specs.PartyBoard.{Attempted, StageAsks, IsAtBoard}
use Rattle.flurry_steps.proofs.Boards.{asks_attempt, comes_out}
use Rattle.test_steps.proofs.tests.party.claim_or_report.Goals as goal

pub on_report-requires : goal.on_report-requires
on_report-requires g c = subst (λ z. IsAtBoard z.stage) (sym c.in-Some.ensures.some) (comes_out c.args.party.now.stage c.in-Some.range (sym c.in-Some.ensures.value))

pub on_attempt-requires : goal.on_attempt-requires
on_attempt-requires g c =
    subst (λ z. StageAsks z.stage (Attempted c.try_claim-attempt.result)) (sym c.in_default.ensures.none)
    (asks_attempt c.args.party.now c.args.table c.try_claim-attempt.result c.requires (sym c.in_default.ensures.value) c.try_claim-attempt.ensures)
