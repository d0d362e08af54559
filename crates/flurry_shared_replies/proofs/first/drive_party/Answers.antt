use Rattle.flurry_shared_replies.proofs.FieldLaws.{driven_reply}
use Rattle.flurry_shared_replies.proofs.first.drive_party.Goals as goal

pub returns : goal.returns
returns g c = driven_reply g.K.Ord.cmp g.F.ComputeFn.changes _ _ c.finish-reply.ensures
