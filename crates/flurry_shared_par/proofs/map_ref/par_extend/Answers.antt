use denote.Param.Send.{sendable}
use Rattle.flurry_shared_view.proofs.Crossing.{view_sync}
use Rattle.flurry_shared_par.proofs.map_ref.par_extend.Goals as goal

pub put_all-requires-sync-P : goal.put_all-requires-sync-P
put_all-requires-sync-P g c κs within = search (view_sync, sendable) depth 30
