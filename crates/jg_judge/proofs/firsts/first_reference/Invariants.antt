use Rattle.std.proofs.Common.{◌≡◌, length}
use Rattle.jg_judge.specs.Asked.{first_reference}
use Rattle.jg_judge.proofs.firsts.first_reference.Given as goal

abbrev pub invariant-loop-argument : goal.invariant-loop-argument
invariant-loop-argument l = first_reference l.rest ≡ first_reference l.arguments

abbrev pub decreases-loop-argument : goal.decreases-loop-argument
decreases-loop-argument l = length l.rest
