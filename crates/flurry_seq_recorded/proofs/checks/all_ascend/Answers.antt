use Rattle.std.proofs.Common.{refl, sym, subst, arith}
use Rattle.std.specs.List.Sorted.{IsStrictlyIncreasing}
use Rattle.flurry_seq_recorded.specs.Closing.{places}
use Rattle.flurry_seq_recorded.specs.Shares.{ShareContents}
use Rattle.flurry_seq_recorded.proofs.PlaceLemmas.{all_next, all_taken}
use Rattle.flurry_seq_recorded.proofs.checks.all_ascend.Goals as goal

pub returns-then-not-ascend : goal.returns-then-not-ascend
returns-then-not-ascend g c = (
  (λ e. absurd (cc)),
  (λ all. c.if-not-ascend.ensures.1 (subst (λ rs. IsStrictlyIncreasing (places rs)) (sym c.receipts.ensures) (rw (← c.share-item.is) at (all c.loop-share.share-index c.share-item.result c.loop-share-test.true)))),
)

pub loop-share-preserved : goal.loop-share-preserved
loop-share-preserved g c =
    all_next c.args.shares.now c.loop-share.share-index c.share-item.result c.loop-share-test.true c.share-item.is (λ (s : ShareContents g.row.K.Denot g.row.V.Denot). IsStrictlyIncreasing (places s.receipts)) c.loop-share.invariant
    (subst (λ rs. IsStrictlyIncreasing (places rs)) c.receipts.ensures (c.if-not-ascend.ensures.0 refl))

pub returns : goal.returns
returns g c = (
  (λ e. all_taken (λ (s : ShareContents g.row.K.Denot g.row.V.Denot). IsStrictlyIncreasing (places s.receipts)) c.args.shares.now c.loop-share.share-index (omega arith) c.loop-share.invariant),
  (λ all. refl),
)
