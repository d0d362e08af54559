use denote.Param.Send.{sendable}
use Rattle.flurry_shared_memo.proofs.Crossing.{memo_sync}
use Rattle.test_shared.proofs.tests.memo.Crossing.{hasher_sync}
use Rattle.test_shared.proofs.tests.memo.values_of_each.Goals as goal

pub map_indices-each-requires-sync-F : goal.map_indices-each-requires-sync-F
map_indices-each-requires-sync-F g c κs within = search (memo_sync, hasher_sync, sendable) depth 40
