use Rattle.jg_shell.proofs.Right.{IsChecked-more, IsChecked-wrong}
use Rattle.jg_shell.proofs.compare.first_wrong.Goals as goal

pub returns-then-not-is_right : goal.returns-then-not-is_right
returns-then-not-is_right c =
    IsChecked-wrong c.args.guard.now.journal c.args.receipts.now c.loop-receipt.receipt-index c.loop-receipt.low c.receipt-item.result c.loop-receipt-test.true
    c.receipt-item.is
    c.loop-receipt.invariant (λ right. absurd (cc (c.is_right.ensures.right.1 right, c.if-not-is_right.true)))

pub loop-receipt-preserved : goal.loop-receipt-preserved
loop-receipt-preserved c =
    IsChecked-more c.args.guard.now.journal c.args.receipts.now c.loop-receipt.receipt-index c.loop-receipt.low c.receipt-item.result c.loop-receipt-test.true
    c.receipt-item.is
    c.loop-receipt.invariant (c.is_right.ensures.right.0 c.if-not-is_right.false)
