use Rattle.std.proofs.Common.{drop}
use Rattle.use_cache.proofs.Replies.{Follows}
use Rattle.use_cache.proofs.cache.run.Given as goal

abbrev pub invariant-loop-call : goal.invariant-loop-call
invariant-loop-call l = Follows l.fn.calls (drop l.call-index l.calls) l.cache.pairs l.replies.items
