use Rattle.jg_shell.specs.Finish.{ToldBelow}
use Rattle.jg_shell.proofs.compare.first_untold_entry.Given as goal

abbrev pub invariant-loop-place : goal.invariant-loop-place
invariant-loop-place g l = ToldBelow l.guard.journal l.workers l.place
