use Rattle.std.proofs.Common.{◌≤◌, ◌^◌, arith, pow_mono}
use Rattle.flurry_steps_claims.proofs.range.stride_of_table.Goals as goal

pub returns-clause-most : goal.returns-clause-most
returns-clause-most c = let most : 2 ^ c.args.table ≤ 2 ^ 30 = pow_mono c.requires in grind (arith, most, c.stride.ensures)
