use Rattle.flurry_steps.proofs.Boards.{asks_give}
use Rattle.test_steps.proofs.tests.party.give_seat.Goals as goal

pub on_give-requires : goal.on_give-requires
on_give-requires g c = asks_give c.args.party.now c.args.table c.requires
