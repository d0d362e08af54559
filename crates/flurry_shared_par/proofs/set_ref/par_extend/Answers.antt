use denote.Param.Send.{sendable}
use Rattle.flurry_shared_set.proofs.Crossing.{set_view_sync}
use Rattle.flurry_shared_par.proofs.set_ref.par_extend.Goals as goal

pub put_all-requires-sync-P : goal.put_all-requires-sync-P
put_all-requires-sync-P g c κs within = search (set_view_sync, sendable) depth 30
