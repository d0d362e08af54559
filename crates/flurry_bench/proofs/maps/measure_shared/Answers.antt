use denote.Param.Send.{sendable}
use Rattle.std.proofs.Crossing.{crosses}
use Rattle.flurry_bench.proofs.Crossing.{numbers_sync}
use Rattle.flurry_bench.proofs.maps.measure_shared.Goals as goal

pub time_together-requires-sync-S : goal.time_together-requires-sync-S
time_together-requires-sync-S g c κs within = search (numbers_sync, crosses, sendable) depth 30

pub time_together-requires-sync-Z : goal.time_together-requires-sync-Z
time_together-requires-sync-Z g c κs within = search (numbers_sync, crosses, sendable) depth 30

pub time_together-requires-2-sync-S : goal.time_together-requires-2-sync-S
time_together-requires-2-sync-S g c κs within = search (numbers_sync, crosses, sendable) depth 30

pub time_together-requires-2-sync-Z : goal.time_together-requires-2-sync-Z
time_together-requires-2-sync-Z g c κs within = search (numbers_sync, crosses, sendable) depth 30
