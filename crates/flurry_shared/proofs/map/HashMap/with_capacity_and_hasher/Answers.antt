use Rattle.std.proofs.Common.{rules}
use Rattle.flurry_shared.proofs.map.HashMap.with_capacity_and_hasher.Goals as goal

pub with_table-requires : goal.with_table-requires
with_table-requires g c = search rules
