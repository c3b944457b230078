use Rattle.std.proofs.Common.{◌≡◌, false, take}
use Rattle.jg_shell.specs.Finish.{is_told}
use Rattle.jg_shell.proofs.compare.is_told.Given as goal

abbrev pub invariant-loop-worker : goal.invariant-loop-worker
invariant-loop-worker g l = is_told (take l.worker-index l.workers) l.tid l.place ≡ false
