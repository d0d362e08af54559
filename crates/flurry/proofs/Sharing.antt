-- What a caller shows that lends maps and sets to threads, or moves them there, with texts and flags beside them: one set of lemmas for `search`.
use denote.Param.Send.{IsSend, IsSync, sendable}
use Rattle.std.proofs.Crossing.{crosses}
use Rattle.std.proofs.MapsCrossing.{String-send, String-sync}
use Rattle.std.specs.contracts.sync.atomic.AtomicBool as AtomicBool
use Rattle.flurry_shared.proofs.Crossing.{map_send, map_sync}
use Rattle.flurry_shared_set.proofs.Crossing.{set_send, set_sync}

pub flag_send : IsSend AtomicBool.the_row
flag_send = search (crosses, sendable) depth 30

pub flag_sync : IsSync AtomicBool.the_row
flag_sync = search (crosses, sendable) depth 30

pub ruleset shares = (map_send, map_sync, set_send, set_sync, String-send, String-sync, flag_send, flag_sync, crosses, sendable)
