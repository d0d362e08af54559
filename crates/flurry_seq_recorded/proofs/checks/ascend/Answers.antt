use Rattle.std.proofs.Common.{refl, arith, rules}
use Rattle.flurry_seq_recorded.proofs.PlaceLemmas.{falls, rises, as_many_places}
use Rattle.flurry_seq_recorded.proofs.checks.ascend.Goals as goal

pub returns-then-receipts-next : goal.returns-then-receipts-next
returns-then-receipts-next g c = (
  (λ e. absurd (cc)),
  (λ up.
      absurd (falls c.args.receipts.now c.loop-next.next c.index-receipts-next.result c.index-receipts-next-in-loop-next.result (omega arith) c.loop-next-test.true c.if-receipts-next.true up)),
)

pub loop-next-preserved : goal.loop-next-preserved
loop-next-preserved g c =
    rises c.args.receipts.now c.loop-next.next c.index-receipts-next.result c.index-receipts-next-in-loop-next.result (omega arith) c.loop-next-test.true c.if-receipts-next.false c.loop-next.invariant

pub loop-next-init : goal.loop-next-init
loop-next-init g c = search rules

pub returns : goal.returns
returns g c = (
  (λ e k within. c.loop-next.invariant k (omega (arith, as_many_places c.args.receipts.now))),
  (λ up. refl),
)
