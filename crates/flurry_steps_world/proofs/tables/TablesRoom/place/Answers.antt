use Rattle.std.proofs.Common.{arith}
use Rattle.std.specs.Prelude.{is_ok}
use Rattle.flurry_steps_world.proofs.TableLaws.{AreTables-placed}
use Rattle.flurry_steps_world.proofs.ViewLemmas.{seen, number_within, placed_here}
use Rattle.flurry_steps_world.proofs.tables.TablesRoom.place.Goals as goal

pub index_mut-requires : goal.index_mut-requires
index_mut-requires g c = omega (arith, number_within c.self.inside.tables.items c.args.table c.self.invariant c.requires, c.self.inside.tables.ok.0)

pub invariant_of-self : goal.invariant_of-self
invariant_of-self g c =
    let xs = c.self.inside.tables.items in
    let lt = number_within xs c.args.table c.self.invariant c.requires in
    AreTables-placed (seen xs) c.args.table c.args.for_growth (is_ok c.make.result) _ c.self.invariant c.requires
    (placed_here xs c.args.table c.index_mut.result.now lt c.index_mut.ensures.value c.args.for_growth c.make.new.self c.make.result c.make.ensures.slots c.make.ensures.board c.make.ensures.err c.make.ensures.none)

pub returns : goal.returns
returns g c =
    let xs = c.self.inside.tables.items in
    let lt = number_within xs c.args.table c.self.invariant c.requires in
    rw (← c.self.view_is)
    (placed_here xs c.args.table c.index_mut.result.now lt c.index_mut.ensures.value c.args.for_growth c.make.new.self c.make.result c.make.ensures.slots c.make.ensures.board c.make.ensures.err c.make.ensures.none)
