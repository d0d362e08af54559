use Rattle.std.proofs.Common.{arith}
use Rattle.flurry_steps_world.proofs.ViewLemmas.{table_within, slot_within, place_here}
use Rattle.flurry_steps_world.proofs.tables.Tables.slot.Goals as goal

pub index-requires-2 : goal.index-requires-2
index-requires-2 g c =
    let some = rw (← c.self.view_is) at c.requires in
    let lt = table_within c.self.inside.tables.items c.args.table c.args.index some in
    let below = slot_within c.self.inside.tables.items c.args.table c.index.result.now lt c.index.ensures c.args.index some in
    omega (arith, c.index.result.now.slots.ok.0)

pub returns-clause-slot : goal.returns-clause-slot
returns-clause-slot g c =
    let some = rw (← c.self.view_is) at c.requires in
    let lt = table_within c.self.inside.tables.items c.args.table c.args.index some in
    let below = slot_within c.self.inside.tables.items c.args.table c.index.result.now lt c.index.ensures c.args.index some in
    rw (← c.self.view_is) (place_here c.self.inside.tables.items c.args.table c.index.result.now lt c.index.ensures c.args.index c.index-2.result.now below c.index-2.ensures)

pub returns-clause-table : goal.returns-clause-table
returns-clause-table g c =
    let xs = c.self.inside.tables.items in
    let some = rw (← c.self.view_is) at c.requires in
    let lt = table_within xs c.args.table c.args.index some in
    let below = slot_within xs c.args.table c.index.result.now lt c.index.ensures c.args.index some in
    (c.self.invariant.order c.args.table c.args.index c.index-2.result.now (place_here xs c.args.table c.index.result.now lt c.index.ensures c.args.index c.index-2.result.now below c.index-2.ensures)).0

pub returns-clause-index : goal.returns-clause-index
returns-clause-index g c =
    let xs = c.self.inside.tables.items in
    let some = rw (← c.self.view_is) at c.requires in
    let lt = table_within xs c.args.table c.args.index some in
    let below = slot_within xs c.args.table c.index.result.now lt c.index.ensures c.args.index some in
    (c.self.invariant.order c.args.table c.args.index c.index-2.result.now (place_here xs c.args.table c.index.result.now lt c.index.ensures c.args.index c.index-2.result.now below c.index-2.ensures)).1
