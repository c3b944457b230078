use Rattle.std.proofs.Common.{◌≡◌, length}
use Rattle.jg_judge.specs.Asked.{first_number}
use Rattle.jg_judge.proofs.firsts.first_number.Given as goal

abbrev pub invariant-loop-argument : goal.invariant-loop-argument
invariant-loop-argument l = first_number l.rest ≡ first_number l.arguments

abbrev pub decreases-loop-argument : goal.decreases-loop-argument
decreases-loop-argument l = length l.rest
