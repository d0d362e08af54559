-- A map over each hasher may be shared by threads.
use denote.Param.Send.{sendable}
use Rattle.std.proofs.Crossing.{crosses}
use Rattle.stress.proofs.Crossing.{numbers_sync}
use Rattle.stress.proofs.run_hasher.Goals as goal

pub run-requires-sync-M : goal.run-requires-sync-M
run-requires-sync-M g c κs within = search (numbers_sync, crosses, sendable) depth 30

pub run-requires-in-Low-sync-M : goal.run-requires-in-Low-sync-M
run-requires-in-Low-sync-M g c κs within = search (numbers_sync, crosses, sendable) depth 30

pub run-requires-in-Zero-sync-M : goal.run-requires-in-Zero-sync-M
run-requires-in-Zero-sync-M g c κs within = search (numbers_sync, crosses, sendable) depth 30
