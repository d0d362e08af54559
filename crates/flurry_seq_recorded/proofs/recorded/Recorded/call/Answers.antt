use Rattle.flurry_seq_recorded.proofs.HistoryLaws.{was_recorded}
use Rattle.flurry_seq_recorded.proofs.recorded.Recorded.call.Goals as goal

pub returns-clause-ok : goal.returns-clause-ok
returns-clause-ok g c = was_recorded g.K.Ord.cmp c.deref_mut.result.now c.call_for.new.self c.args.share.now c.call_for.new.share c.args.call c.call_for.result c.call_for.ensures.ok c.call_for.ensures.book
