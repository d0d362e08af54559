use Rattle.std.proofs.Common.{arith}
use Rattle.std.proofs.Math.ListN.{drop_of_length-le}
use Rattle.use_cache.proofs.Replies.{follows_at_first, follows_put, follows_get, follows_at_last, left_at}
use Rattle.use_cache.proofs.cache.run.Goals as goal
use Rattle.use_cache.proofs.cache.run.Goals.{in-Put+in_ok-put-in-Put, in-Get+in_ok-push-in-Get}

pub loop-call-init : goal.loop-call-init
loop-call-init c = rw (c.new-replies.ensures.items, c.new-cache.ensures) (follows_at_first c.args.calls.now)

pub loop-call-preserved : goal.loop-call-preserved
loop-call-preserved c = elim c.match-call.branch [
  | in-Put+in_ok-put-in-Put w ↦ rw (w.cache-is, w.replies-is)
      (follows_put _ _ w.in-Put.key w.in-Put.value c.loop-call.cache.pairs w.put.new.self.pairs c.loop-call.replies.items
      (rw (left_at c.args.calls.now c.loop-call.call-index _ _ c.loop-call-test.true w.in-Put.is) at c.loop-call.invariant)
      w.in_ok-put-in-Put.ensures.put w.in_ok-put-in-Put.ensures.others)
  | in-Get+in_ok-push-in-Get w ↦ rw (w.cache-is, w.replies-is, w.in_ok-push-in-Get.ensures.items, w.get.ensures)
      (follows_get _ _ w.in-Get.key c.loop-call.cache.pairs c.loop-call.replies.items
      (rw (left_at c.args.calls.now c.loop-call.call-index _ _ c.loop-call-test.true w.in-Get.is) at c.loop-call.invariant))
]

pub returns : goal.returns
returns c = follows_at_last c.args.calls.now c.loop-call.cache.pairs c.loop-call.replies.items
    (rw (drop_of_length-le c.args.calls.now {i = c.loop-call.call-index} (omega arith)) at c.loop-call.invariant)
