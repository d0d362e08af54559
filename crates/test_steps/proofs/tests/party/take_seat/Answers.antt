use Rattle.flurry_steps.proofs.Boards.{asks_seat}
use Rattle.test_steps.proofs.tests.party.take_seat.Goals as goal

pub on_seat-requires : goal.on_seat-requires
on_seat-requires g c = asks_seat c.args.party.now c.args.table _ c.requires
