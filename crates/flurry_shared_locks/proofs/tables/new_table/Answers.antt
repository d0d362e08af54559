use Rattle.std.proofs.Common.{rules}
use Rattle.flurry_shared_locks.proofs.tables.new_table.Goals as goal

pub live_at-slot-requires-clause-index : goal.live_at-slot-requires-clause-index
live_at-slot-requires-clause-index g c = search rules
