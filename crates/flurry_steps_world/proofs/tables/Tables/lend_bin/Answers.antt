use Rattle.std.proofs.Common.{refl, arith}
use Rattle.flurry_steps_world.proofs.ViewLemmas.{table_within, slot_within, place_here, put_here, kept_here}
use Rattle.flurry_steps_world.proofs.tables.Tables.lend_bin.Goals as goal

pub index_mut-requires : goal.index_mut-requires
index_mut-requires g c =
    let xs = c.self.inside.tables.items in
    let v = c.index_mut-place.result.now in
    let some = rw (← c.self.view_is) at c.requires.there in
    let lt = table_within xs c.args.table c.args.index some in
    let below = slot_within xs c.args.table v lt c.index_mut-place.ensures.value c.args.index some in
    omega (arith, v.slots.ok.0)

pub on_bin-requires : goal.on_bin-requires
on_bin-requires g c =
    let xs = c.self.inside.tables.items in
    let v = c.index_mut-place.result.now in
    let some = rw (← c.self.view_is) at c.requires.there in
    let lt = table_within xs c.args.table c.args.index some in
    let below = slot_within xs c.args.table v lt c.index_mut-place.ensures.value c.args.index some in
    let at = place_here xs c.args.table v lt c.index_mut-place.ensures.value c.args.index c.index_mut.result.now below c.index_mut.ensures.value in
    let (table, index) = c.self.invariant.order c.args.table c.args.index c.index_mut.result.now at in
    rw (table, index) c.requires.wants

pub invariant_of-self : goal.invariant_of-self
invariant_of-self g c =
    let xs = c.self.inside.tables.items in
    let v = c.index_mut-place.result.now in
    let some = rw (← c.self.view_is) at c.requires.there in
    let lt = table_within xs c.args.table c.args.index some in
    let below = slot_within xs c.args.table v lt c.index_mut-place.ensures.value c.args.index some in
    let at = place_here xs c.args.table v lt c.index_mut-place.ensures.value c.args.index c.index_mut.result.now below c.index_mut.ensures.value in
    kept_here xs c.args.table v lt c.index_mut-place.ensures.value c.args.index _ c.index_mut.result.now c.on_bin.new.slot c.self.invariant at refl refl c.on_bin.ensures.step.table c.on_bin.ensures.step.index

pub returns-clause-step : goal.returns-clause-step
returns-clause-step g c b =
    let xs = c.self.inside.tables.items in
    let v = c.index_mut-place.result.now in
    let some = rw (← c.self.view_is) at c.requires.there in
    let lt = table_within xs c.args.table c.args.index some in
    let below = slot_within xs c.args.table v lt c.index_mut-place.ensures.value c.args.index some in
    let at = place_here xs c.args.table v lt c.index_mut-place.ensures.value c.args.index c.index_mut.result.now below c.index_mut.ensures.value in
    rw (← c.self.view_is) (
      c.index_mut.result.now,
      c.on_bin.new.slot,
      at,
      c.on_bin.ensures.within,
      c.on_bin.ensures.step,
      refl,
      put_here xs c.args.table v lt c.index_mut-place.ensures.value c.args.index _ c.on_bin.new.slot refl refl,
    )

pub returns-clause-within : goal.returns-clause-within
returns-clause-within g c = invariant_of-self g c
