use Rattle.std.proofs.Common.{◌+◌, ◌<◌, length, refl, arith}
use Rattle.flurry_steps_world.proofs.ViewLemmas.{seen}
use Rattle.flurry_steps_world.proofs.BoardLemmas.{none_past, no_give, seat_given, board_there, put_there, kept_there}
use Rattle.flurry_steps_world.proofs.tables.Tables.give_seat.Goals as goal

pub returns-then-len-table : goal.returns-then-len-table
returns-then-len-table g c =
    let xs = c.self.inside.tables.items in
    rw (← c.self.view_is) (record { gives = no_give (seen xs) _ c.args.table (none_past xs c.args.table (omega (arith, c.if-len-table.true, c.len.ensures, c.self.inside.tables.ok.0))) refl })

pub invariant_of-self-2 : goal.invariant_of-self-2
invariant_of-self-2 g c =
    let xs = c.self.inside.tables.items in
    let v = c.index_mut-place.result.now in
    kept_there xs c.args.table v (omega (arith, c.self.inside.tables.ok.0)) c.index_mut-place.ensures.value c.in-Some.board _ c.give_seat.new.self c.self.invariant c.in-Some.is c.give_seat.ensures refl

pub returns : goal.returns
returns g c =
    let xs = c.self.inside.tables.items in
    let v = c.index_mut-place.result.now in
    let lt = (let within : c.args.table + 1 < length xs = omega (arith, c.self.inside.tables.ok.0) in within) in
    rw (← c.self.view_is) (record {
      gives = seat_given (seen xs) _ c.args.table c.in-Some.board (board_there xs c.args.table v lt c.index_mut-place.ensures.value _ c.in-Some.is) (put_there xs c.args.table v lt c.index_mut-place.ensures.value _ c.give_seat.new.self c.give_seat.ensures);
    })
