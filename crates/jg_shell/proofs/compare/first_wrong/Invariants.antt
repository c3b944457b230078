use Rattle.jg_shell.proofs.Right.{IsChecked}
use Rattle.jg_shell.proofs.compare.first_wrong.Given as goal

abbrev pub invariant-loop-receipt : goal.invariant-loop-receipt
invariant-loop-receipt l = IsChecked l.guard.journal l.receipts l.receipt-index l.low
