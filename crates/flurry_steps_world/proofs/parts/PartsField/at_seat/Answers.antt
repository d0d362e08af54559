use Rattle.std.proofs.Common.{refl, ap}
use Rattle.flurry_steps.specs.Field.{BoardLoan, board_of}
use Rattle.flurry_steps.specs.PartyBoard.{Seated}
use Rattle.flurry_steps.proofs.Boards.{asks_seat}
use Rattle.flurry_steps_world.proofs.parts.PartsField.at_seat.Goals as goal

pub on_seat-requires : goal.on_seat-requires
on_seat-requires g c = asks_seat c.args.party.now c.args.table c.take_seat-got.result c.requires

pub returns : goal.returns
returns g c =
    rw (← c.self.view_is) (record {
      loan = BoardLoan c.args.table (Seated c.take_seat-got.result);
      lent = (tt, (c.take_seat-got.ensures.gives, refl));
      step = (ap board_of c.requires, c.on_seat.ensures);
    })
