use Rattle.std.proofs.Common.{arith, sym, ◌∙◌, ◌^◌, ◌<◌}
use Rattle.std.proofs.lemmas.Nat.{pow_below}
use Rattle.flurry_steps_world.proofs.PartsLaws.{index_there}
use Rattle.flurry_steps_world.proofs.tables.Tables.has_halves.Goals as goal
use Rattle.flurry_base.specs.declared.sizes.TheConstants.{MAX_TABLE}

pub overflow_add-high : goal.overflow_add-high
overflow_add-high g c =
    let within = index_there c.args.self.now c.args.table c.args.index c.has.ensures.within (sym c.has.ensures.there ∙ c.if-not-has.false) in
    let small : 2 ^ c.args.table < 2 ^ MAX_TABLE = pow_below c.args.table 30 c.if-table-ge-MAX_TABLE.false in
    record { fits = omega (arith, within, small) }
