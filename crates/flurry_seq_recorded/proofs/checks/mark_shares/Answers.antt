use Rattle.std.proofs.Common.{take, refl, sym, subst, arith}
use Rattle.flurry_seq_recorded.specs.Closing.{all_receipts, places}
use Rattle.flurry_seq_recorded.specs.Marks.{AreOnce}
use Rattle.flurry_seq_recorded.proofs.MarkLemmas.{once_from_marks}
use Rattle.flurry_seq_recorded.proofs.ShareLemmas.{not_once_share, marked_share, marked_shares}
use Rattle.flurry_seq_recorded.proofs.checks.mark_shares.Goals as goal

pub returns-then-not-mark_places : goal.returns-then-not-mark_places
returns-then-not-mark_places g c = λ before. (
  (λ e. absurd (cc)),
  (λ once.
      absurd (not_once_share c.args.shares.now c.loop-share.share-index c.share-item.result c.loop-share-test.true c.share-item.is _ _ c.receipts.result.now (sym c.loop-share.auto.marks) c.receipts.ensures
      (c.if-not-mark_places.ensures (places (all_receipts (take c.loop-share.share-index c.args.shares.now))) (c.loop-share.invariant before)) once)),
)

pub loop-share-preserved : goal.loop-share-preserved
loop-share-preserved g c = λ before.
    marked_share c.args.shares.now c.loop-share.share-index c.share-item.result c.loop-share-test.true c.share-item.is c.mark_places.new.marks c.receipts.result.now c.receipts.ensures
    (c.if-not-mark_places.ensures (places (all_receipts (take c.loop-share.share-index c.args.shares.now))) (c.loop-share.invariant before))

pub returns : goal.returns
returns g c = λ before. (
  (λ e.
      subst (λ n. AreOnce n (places (all_receipts c.args.shares.now))) c.loop-share.auto.marks
      (once_from_marks c.loop-share.marks _ (marked_shares c.loop-share.marks c.args.shares.now c.loop-share.share-index (omega arith) (c.loop-share.invariant before)))),
  (λ once. refl),
)
