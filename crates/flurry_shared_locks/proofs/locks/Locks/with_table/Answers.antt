use Rattle.std.proofs.Common.{rules}
use Rattle.flurry_shared_locks.proofs.locks.Locks.with_table.Goals as goal

pub open-requires : goal.open-requires
open-requires g c = search rules
