use Rattle.std.proofs.Common.{◌++◌, take, sym, arith}
use Rattle.flurry_seq_recorded.specs.Closing.{places}
use Rattle.flurry_seq_recorded.specs.declared.share.Receipt.{Receipt}
use Rattle.flurry_seq_recorded.proofs.PlaceLemmas.{not_once_in, marked_next, marked_all}
use Rattle.flurry_seq_recorded.proofs.checks.mark_places.Goals as goal

pub returns-then-not-mark : goal.returns-then-not-mark
returns-then-not-mark g c = λ xs before ys once.
    not_once_in c.args.receipts.now c.loop-receipt.receipt-index c.receipt-item.result c.loop-receipt-test.true c.receipt-item.is (λ (r : Receipt g.row.K.Denot g.row.V.Denot). r.place) _ _ xs ys (sym c.loop-receipt.auto.marks)
    (c.if-not-mark.ensures (xs ++ places (take c.loop-receipt.receipt-index c.args.receipts.now)) (c.loop-receipt.invariant xs before)) once

pub loop-receipt-preserved : goal.loop-receipt-preserved
loop-receipt-preserved g c = λ xs before.
    marked_next c.args.receipts.now c.loop-receipt.receipt-index c.receipt-item.result c.loop-receipt-test.true c.receipt-item.is (λ (r : Receipt g.row.K.Denot g.row.V.Denot). r.place) c.mark.new.marks xs
    (c.if-not-mark.ensures (xs ++ places (take c.loop-receipt.receipt-index c.args.receipts.now)) (c.loop-receipt.invariant xs before))

pub returns : goal.returns
returns g c = λ xs before.
    marked_all (λ (r : Receipt g.row.K.Denot g.row.V.Denot). r.place) c.loop-receipt.marks c.args.receipts.now c.loop-receipt.receipt-index xs (omega arith) (c.loop-receipt.invariant xs before)
