use Rattle.std.proofs.Common.{rules}
use Rattle.flurry_shared_locks.proofs.tables.LockRoomRoom.place.Goals as goal

pub new_table-requires : goal.new_table-requires
new_table-requires g c = search rules
