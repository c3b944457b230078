use Rattle.jg_explain.specs.Explained.{IsFront}
use Rattle.jg_explain.proofs.explaining.go_to.Given as goal

abbrev pub invariant-loop-at : goal.invariant-loop-at
invariant-loop-at g l = IsFront l.guard l.again l.at
