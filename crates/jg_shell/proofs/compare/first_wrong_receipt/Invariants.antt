use Rattle.std.proofs.Common.{take}
use Rattle.std.specs.Prelude.{All}
use Rattle.jg_shell.specs.Finish.{IsRightWorker}
use Rattle.jg_shell.proofs.compare.first_wrong_receipt.Given as goal

abbrev pub invariant-loop-worker : goal.invariant-loop-worker
invariant-loop-worker g l = All (IsRightWorker l.guard.journal) (take l.worker-index l.workers)
