use Rattle.std.proofs.Common.{[], map, take, refl, sym, subst, arith}
use Rattle.flurry_seq_recorded.specs.Marks.{AreOnce}
use Rattle.flurry_seq_recorded.specs.Shares.{ShareContents}
use Rattle.flurry_seq_recorded.proofs.MarkLemmas.{once_from_marks}
use Rattle.flurry_seq_recorded.proofs.PlaceLemmas.{not_once_here, marked_next, marked_all}
use Rattle.flurry_seq_recorded.proofs.checks.mark_numbers.Goals as goal

pub returns-then-not-mark : goal.returns-then-not-mark
returns-then-not-mark g c = λ before. (
  (λ e. absurd (cc)),
  (λ once.
      absurd (not_once_here c.args.shares.now c.loop-share.share-index c.share-item.result c.loop-share-test.true c.share-item.is (λ (s : ShareContents g.row.K.Denot g.row.V.Denot). s.number) _ _ (sym c.loop-share.auto.marks)
      (rw c.number.ensures at (c.if-not-mark.ensures (map (λ (s : ShareContents g.row.K.Denot g.row.V.Denot). s.number) (take c.loop-share.share-index c.args.shares.now)) (c.loop-share.invariant before))) once)),
)

pub loop-share-preserved : goal.loop-share-preserved
loop-share-preserved g c = λ before.
    marked_next c.args.shares.now c.loop-share.share-index c.share-item.result c.loop-share-test.true c.share-item.is (λ (s : ShareContents g.row.K.Denot g.row.V.Denot). s.number) c.mark.new.marks []
    (rw c.number.ensures at (c.if-not-mark.ensures (map (λ (s : ShareContents g.row.K.Denot g.row.V.Denot). s.number) (take c.loop-share.share-index c.args.shares.now)) (c.loop-share.invariant before)))

pub returns : goal.returns
returns g c = λ before. (
  (λ e.
      subst (λ n. AreOnce n (map (λ (s : ShareContents g.row.K.Denot g.row.V.Denot). s.number) c.args.shares.now)) c.loop-share.auto.marks
      (once_from_marks c.loop-share.marks _
      (marked_all (λ (s : ShareContents g.row.K.Denot g.row.V.Denot). s.number) c.loop-share.marks c.args.shares.now c.loop-share.share-index [] (omega arith) (c.loop-share.invariant before)))),
  (λ once. refl),
)
