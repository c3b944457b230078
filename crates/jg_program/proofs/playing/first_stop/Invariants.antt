use Rattle.std.proofs.Common.{◌≡◌, drop}
use Rattle.jg_program.specs.Plays.{first_stop_of}
use Rattle.jg_program.proofs.playing.first_stop.Given as goal

abbrev pub invariant-loop-worker : goal.invariant-loop-worker
invariant-loop-worker g l = first_stop_of l.workers ≡ first_stop_of (drop l.worker-index l.workers)
