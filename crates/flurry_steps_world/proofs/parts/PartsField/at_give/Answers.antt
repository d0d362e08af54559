use Rattle.std.proofs.Common.{refl, ap}
use Rattle.flurry_steps.specs.Field.{BoardLoan, board_of}
use Rattle.flurry_steps.specs.PartyBoard.{TakenBack}
use Rattle.flurry_steps.proofs.Boards.{asks_give}
use Rattle.flurry_steps_world.proofs.parts.PartsField.at_give.Goals as goal

pub on_give-requires : goal.on_give-requires
on_give-requires g c = asks_give c.args.party.now c.args.table c.requires

pub returns : goal.returns
returns g c =
    rw (← c.self.view_is) (record {
      loan = BoardLoan c.args.table TakenBack;
      lent = (tt, (c.give_seat.ensures.gives, refl));
      step = (ap board_of c.requires, c.on_give.ensures);
    })
