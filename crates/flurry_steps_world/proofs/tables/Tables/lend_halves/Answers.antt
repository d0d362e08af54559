use Rattle.std.proofs.Common.{◌≡◌, ◌+◌, ◌^◌, ◌++◌, length, drop, set, get_or, refl, sym, ap, ◌∙◌, subst, arith}
use Rattle.std.proofs.lemmas.Grind.{common_steps}
use Rattle.std.specs.Vec.{with_item}
use Rattle.flurry_steps_world.specs.Tables.{AreTables}
use Rattle.flurry_steps_world.proofs.TableLaws.{index_within}
use Rattle.flurry_steps_world.proofs.ViewLemmas.{seen, number_places}
use Rattle.flurry_steps_world.proofs.MoveLemmas.{old_at, old_below, new_at, as_many, moved, take_front}
use Rattle.flurry_steps_world.proofs.tables.Tables.lend_halves.Goals as goal

pub index_mut-requires : goal.index_mut-requires
index_mut-requires g c =
    let xs = c.self.inside.tables.items in
    let there = rw (← c.self.view_is) at c.requires.there in
    let split = sym c.deref_mut.ensures.value ∙ c.split_at_mut-front.ensures.value in
    let v = get_or c.split_at_mut-front.result.0.now c.args.table c.index-front-table.result in
    omega (arith, v.slots.ok.0, old_below xs _ _ c.args.table split c.split_at_mut-front.ensures.front_len c.args.index c.index-front-table.result there.0 c.index-front-table.is)

pub move_between-requires-clause-wants : goal.move_between-requires-clause-wants
move_between-requires-clause-wants g c =
    let xs = c.self.inside.tables.items in
    let there = rw (← c.self.view_is) at c.requires.there in
    let split = sym c.deref_mut.ensures.value ∙ c.split_at_mut-front.ensures.value in
    let found = old_at xs _ _ c.args.table split c.split_at_mut-front.ensures.front_len c.args.index c.index-front-table.result c.index_mut.result.now there.0 c.index-front-table.is c.index_mut.ensures.value in
    let (table, index) = c.self.invariant.order c.args.table c.args.index c.index_mut.result.now found.2 in
    rw (table, index) c.requires.wants

pub move_between-requires-clause-table : goal.move_between-requires-clause-table
move_between-requires-clause-table g c =
    let xs = c.self.inside.tables.items in
    let there = rw (← c.self.view_is) at c.requires.there in
    let split = sym c.deref_mut.ensures.value ∙ c.split_at_mut-front.ensures.value in
    let found = new_at xs _ _ c.args.table split c.split_at_mut-front.ensures.front_len c.args.index c.index-back-0.result there.1 c.index-back-0.is in
    omega (arith, found.0, number_places xs c.self.invariant)

pub move_between-requires-clause-low : goal.move_between-requires-clause-low
move_between-requires-clause-low g c =
    let xs = c.self.inside.tables.items in
    let there = rw (← c.self.view_is) at c.requires.there in
    let split = sym c.deref_mut.ensures.value ∙ c.split_at_mut-front.ensures.value in
    let found = old_at xs _ _ c.args.table split c.split_at_mut-front.ensures.front_len c.args.index c.index-front-table.result c.index_mut.result.now there.0 c.index-front-table.is c.index_mut.ensures.value in
    index_within (seen xs) c.args.table c.args.index c.index_mut.result.now c.self.invariant found.2

pub move_between-requires-clause-high : goal.move_between-requires-clause-high
move_between-requires-clause-high g c =
    let xs = c.self.inside.tables.items in
    let there = rw (← c.self.view_is) at c.requires.there in
    let split = sym c.deref_mut.ensures.value ∙ c.split_at_mut-front.ensures.value in
    let found = new_at xs _ _ c.args.table split c.split_at_mut-front.ensures.front_len (c.args.index + 2 ^ c.args.table) c.index-back-0.result there.2 c.index-back-0.is in
    found.2

pub invariant_of-self : goal.invariant_of-self
invariant_of-self g c =
    let xs = c.self.inside.tables.items in
    let front = c.split_at_mut-front.result.0.now in
    let back = c.split_at_mut-front.result.1.now in
    let there = rw (← c.self.view_is) at c.requires.there in
    let split = sym c.deref_mut.ensures.value ∙ c.split_at_mut-front.ensures.value in
    let olds = record (get_or front c.args.table c.index-front-table.result) { slots = with_item (get_or front c.args.table c.index-front-table.result).slots c.args.index c.move_between.new.old } in
    let news = record (get_or back 0 c.index-back-0.result) { slots = c.move_between.new.news } in
    let done =
    moved xs front back c.args.table split c.split_at_mut-front.ensures.front_len c.args.index c.index-front-table.result c.index-back-0.result olds news c.index_mut.result.now c.move_between.new.old
    c.args.party.now c.move_between.new.party c.move_between.result c.self.invariant there.0 there.1 c.index-front-table.is c.index-back-0.is c.index_mut.ensures.value refl refl refl c.move_between.ensures.step in
    let written = set front c.args.table olds ++ set back 0 news in
    let count : length written ≡ c.self.inside.tables.len = as_many xs front back c.args.table split c.split_at_mut-front.ensures.front_len olds news ∙ sym c.self.inside.tables.ok.0 in
    subst (λ l. AreTables (seen l)) (sym (take_front c.self.inside.tables.len written (drop (length written) xs) count)) done.9

pub returns-clause-step : goal.returns-clause-step
returns-clause-step g c b =
    let xs = c.self.inside.tables.items in
    let front = c.split_at_mut-front.result.0.now in
    let back = c.split_at_mut-front.result.1.now in
    let there = rw (← c.self.view_is) at c.requires.there in
    let split = sym c.deref_mut.ensures.value ∙ c.split_at_mut-front.ensures.value in
    let olds = record (get_or front c.args.table c.index-front-table.result) { slots = with_item (get_or front c.args.table c.index-front-table.result).slots c.args.index c.move_between.new.old } in
    let news = record (get_or back 0 c.index-back-0.result) { slots = c.move_between.new.news } in
    let (low, high, low', high', at, at_low, at_high, step, whole, are) =
    moved xs front back c.args.table split c.split_at_mut-front.ensures.front_len c.args.index c.index-front-table.result c.index-back-0.result olds news c.index_mut.result.now c.move_between.new.old
    c.args.party.now c.move_between.new.party c.move_between.result c.self.invariant there.0 there.1 c.index-front-table.is c.index-back-0.is c.index_mut.ensures.value refl refl refl c.move_between.ensures.step in
    let written = set front c.args.table olds ++ set back 0 news in
    let count : length written ≡ c.self.inside.tables.len = as_many xs front back c.args.table split c.split_at_mut-front.ensures.front_len olds news ∙ sym c.self.inside.tables.ok.0 in
    rw (← c.self.view_is) (
      c.index_mut.result.now,
      low,
      high,
      c.move_between.new.old,
      low',
      high',
      at,
      at_low,
      at_high,
      c.move_between.ensures.within,
      step,
      refl,
      ap (λ l. seen l) (take_front c.self.inside.tables.len written (drop (length written) xs) count) ∙ whole,
    )

pub returns-clause-within : goal.returns-clause-within
returns-clause-within g c = invariant_of-self g c

pub split_at_mut-front-requires : goal.split_at_mut-front-requires
split_at_mut-front-requires g c = grind (arith, common_steps)

pub offset_bounds-front-table : goal.offset_bounds-front-table
offset_bounds-front-table g c = grind (arith, common_steps)

pub bounds-back-0 : goal.bounds-back-0
bounds-back-0 g c = grind (arith, common_steps)
