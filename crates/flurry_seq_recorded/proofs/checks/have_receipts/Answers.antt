use Rattle.std.proofs.Common.{length, ap, arith}
use Rattle.flurry_seq_recorded.proofs.ShareLemmas.{count_next, count_up_to}
use Rattle.flurry_seq_recorded.proofs.checks.have_receipts.Goals as goal

pub returns-then-made-left : goal.returns-then-made-left
returns-then-made-left g c = (
  (λ e. absurd (cc)),
  (λ is. absurd (omega (arith, count_up_to c.args.shares.now c.loop-share.share-index c.share-item.result c.loop-share-test.true c.share-item.is, ap length c.receipts-made.ensures, c.loop-share.invariant))),
)

pub loop-share-preserved : goal.loop-share-preserved
loop-share-preserved g c =
    omega (arith, count_next c.args.shares.now c.loop-share.share-index c.share-item.result c.loop-share-test.true c.share-item.is, ap length c.receipts-made.ensures, c.loop-share.invariant)
