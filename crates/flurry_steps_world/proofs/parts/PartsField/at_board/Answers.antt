use Rattle.std.proofs.Common.{refl, sym, ap, ◌∙◌, subst}
use Rattle.flurry_steps.specs.Field.{BoardLoan, board_of}
use Rattle.flurry_steps.specs.PartyBoard.{Attempted, Reported, StageAsks, IsAtBoard, BoardStep}
use Rattle.flurry_steps.proofs.Boards.{asks_attempt, comes_out, reported}
use Rattle.flurry_steps_world.proofs.parts.PartsField.at_board.Goals as goal

pub on_report-requires : goal.on_report-requires
on_report-requires g c = subst (λ z. IsAtBoard z.stage) (sym c.in-Some.ensures.some) (comes_out c.args.party.now.stage c.in-Some.range (sym c.take_range.ensures.value ∙ c.in-Some.is))

pub on_attempt-requires : goal.on_attempt-requires
on_attempt-requires g c =
    subst (λ z. StageAsks z.stage (Attempted c.try_claim-attempt.result)) (sym c.in-None.ensures.none)
    (asks_attempt c.args.party.now c.args.table c.try_claim-attempt.result c.requires (sym c.take_range.ensures.value ∙ c.in-None.is) c.try_claim-attempt.ensures.table)

pub returns-in-Some : goal.returns-in-Some
returns-in-Some g c =
    let step = reported c.args.party.now c.take_range.new.self c.on_report.new.self c.in-Some.range c.report-last.result c.on_report.result (sym c.take_range.ensures.value ∙ c.in-Some.is) c.in-Some.ensures.some c.on_report.ensures.silent c.on_report.ensures.told in
    rw (← c.self.view_is) (record {
      loan = BoardLoan c.args.table (Reported c.in-Some.range c.report-last.result);
      lent = (tt, (c.report-last.ensures.gives, refl));
      step = (ap board_of c.requires, step);
    })

pub returns-in-None : goal.returns-in-None
returns-in-None g c =
    let step = subst (λ z. BoardStep z (Attempted c.try_claim-attempt.result) c.on_attempt.result c.on_attempt.new.self) c.in-None.ensures.none c.on_attempt.ensures in
    rw (← c.self.view_is) (record {
      loan = BoardLoan c.args.table (Attempted c.try_claim-attempt.result);
      lent = (tt, (c.try_claim-attempt.ensures.gives, refl));
      step = (ap board_of c.requires, step);
    })
