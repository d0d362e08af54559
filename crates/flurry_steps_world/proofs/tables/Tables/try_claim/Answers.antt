use Rattle.std.proofs.Common.{◌+◌, ◌<◌, length, refl, arith}
use Rattle.flurry_steps_world.proofs.ViewLemmas.{seen}
use Rattle.flurry_steps_world.proofs.BoardLemmas.{none_past, no_claim, attempted, attempt_is, board_there, put_there, kept_there}
use Rattle.flurry_steps_world.proofs.tables.Tables.try_claim.Goals as goal

pub returns-then-len-table-clause-gives : goal.returns-then-len-table-clause-gives
returns-then-len-table-clause-gives g c =
    let xs = c.self.inside.tables.items in
    rw (← c.self.view_is) (no_claim (seen xs) _ c.args.table (none_past xs c.args.table (omega (arith, c.if-len-table.true, c.len.ensures, c.self.inside.tables.ok.0))) refl)

pub invariant_of-self-2 : goal.invariant_of-self-2
invariant_of-self-2 g c =
    let xs = c.self.inside.tables.items in
    let v = c.index_mut-place.result.now in
    kept_there xs c.args.table v (omega (arith, c.self.inside.tables.ok.0)) c.index_mut-place.ensures.value c.in-Some.board _ c.try_claim.new.self c.self.invariant c.in-Some.is c.try_claim.ensures.after refl

pub returns-clause-gives : goal.returns-clause-gives
returns-clause-gives g c =
    let xs = c.self.inside.tables.items in
    let v = c.index_mut-place.result.now in
    let lt = (let within : c.args.table + 1 < length xs = omega (arith, c.self.inside.tables.ok.0) in within) in
    rw (← c.self.view_is)
    (attempted (seen xs) _ c.args.table c.in-Some.board (board_there xs c.args.table v lt c.index_mut-place.ensures.value _ c.in-Some.is) _ c.try_claim.ensures.value
    (put_there xs c.args.table v lt c.index_mut-place.ensures.value _ c.try_claim.new.self c.try_claim.ensures.after))

pub returns-clause-table : goal.returns-clause-table
returns-clause-table g c =
    let xs = c.self.inside.tables.items in
    let v = c.index_mut-place.result.now in
    let lt = (let within : c.args.table + 1 < length xs = omega (arith, c.self.inside.tables.ok.0) in within) in
    rw c.try_claim.ensures.value (attempt_is c.in-Some.board c.args.table (c.self.invariant.boards c.args.table c.in-Some.board (board_there xs c.args.table v lt c.index_mut-place.ensures.value _ c.in-Some.is)))
