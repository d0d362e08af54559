use denote.Param.{param, copied}
use denote.Param.Send.{IsSync, sendable}
use denote.Plain.{UInt}
use mir.Syntax.{w64}
use Rattle.std.proofs.Crossing.{crosses}
use Rattle.std.specs.contracts.sync.atomic.AtomicBool as AtomicBool
use Rattle.std.specs.contracts.prelude.U64Ord.TheImpl as ord
use Rattle.std.specs.contracts.prelude.U64PartialEq.TheImpl as eq
use Rattle.std.specs.contracts.prelude.U64PartialOrd.TheImpl as partial
use Rattle.flurry_shared.proofs.Crossing.{map_sync}
use Rattle.flurry_shared.specs.contracts.map.HashMap as HashMap
use Rattle.flurry_run_words.proofs.threads.fn.insert_in_threads.scope.Goals as goal

pub spawn-child-requires-send-F : goal.spawn-child-requires-send-F
spawn-child-requires-send-F g c κs within =
    let map : IsSync (HashMap.the_row (UInt w64) (UInt w64) (param 0 g.row.S) (copied 2 g.row.A) ord.ghosts eq.ghosts partial.ghosts g.S.KeyHasher g.A.Allocator) = search (map_sync, sendable) depth 30 in
    let flag : IsSync AtomicBool.the_row = search (crosses, sendable) depth 30 in
    let runtime : IsSync (param 1 g.row.R) = search sendable depth 30 in
    search sendable depth 30
