use Rattle.std.proofs.Common.{rules}
use Rattle.flurry_seq_recorded.proofs.replies.reply_to.Goals as goal

pub returns-in-Remove-clause-ok : goal.returns-in-Remove-clause-ok
returns-in-Remove-clause-ok g c = search rules
